use Rattle.std.proofs.Common.{subst}
use Rattle.siding.specs.Stands.{state_of}
use Rattle.lists.specs.Held.{held}
use Rattle.lists.specs.Check.{Checked}
use Rattle.lists.proofs.Exact.{one_answer, exact}
use Rattle.lists.proofs.check.check.Goals as goal

pub returns-clause-no_other : goal.returns-clause-no_other
returns-clause-no_other c other so =
    let x = state_of c.args.siding.now in
    one_answer x (held c.args.list.now) other c.verdict.result so (subst (λ ms. Checked x ms c.verdict.result) c.entries.ensures c.verdict.ensures)

pub returns-clause-check_is_exact : goal.returns-clause-check_is_exact
returns-clause-check_is_exact c =
    let x = state_of c.args.siding.now in
    exact x (held c.args.list.now) c.verdict.result (subst (λ ms. Checked x ms c.verdict.result) c.entries.ensures c.verdict.ensures)
