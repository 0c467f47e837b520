use Rattle.std.proofs.Common.{Err, sym, ap, ◌∙◌, subst}
use Rattle.std.proofs.lemmas.Result.{err_from_is_err_and}
use Rattle.siding.specs.Steps.{Stepped}
use Rattle.siding.proofs.Firsts.{step_done, step_refused}
use Rattle.siding.proofs.siding.Siding.step.Goals as goal

pub returns-in_err-hand_move : goal.returns-in_err-hand_move
returns-in_err-hand_move c =
    let q = err_from_is_err_and c.from_residual-in_err-hand_move.result c.from_residual-in_err-hand_move.ensures.1 in
    let refused = c.in_err-hand_move.ensures in
    subst (Stepped c.args.self.now c.hand_move.new.self) (sym (q.1 ∙ ap Err q.2))
    (step_refused c.args.self.now c.in-Some.m c.in_ok-test_numbers.ensures c.in-Some.ensures c.hand_move.new.self _ refused.0 refused.1)

pub returns-in_ok-hand_move : goal.returns-in_ok-hand_move
returns-in_ok-hand_move c =
    step_done c.args.self.now c.in-Some.m c.in_ok-test_numbers.ensures c.in-Some.ensures c.hand_move.new.self c.in_ok-hand_move.ensures
