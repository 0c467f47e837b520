use Rattle.std.proofs.Common.{◌≡◌, ◌<◌, ℕ, pos, arith, rules, tests}
use Rattle.std.proofs.lemmas.Iterator.{cases_from_any}
use Rattle.std.proofs.lemmas.Iterator.Adapters.{serves_from_places}
use Rattle.std.proofs.lemmas.Iterator.Consumers.{YieldsList-from_first}
use Rattle.motion.specs.Demand.{demand_of}
use Rattle.siding.specs.Branches.{row, branches_of}
use Rattle.siding.proofs.Searched.{row_branch, unsettled_any}
use Rattle.siding.proofs.siding.Siding.is_unsettled.Goals as goal

pub any-requires-clause-callable : goal.any-requires-clause-callable
any-requires-clause-callable c =
    let t = c.args.self.now.track in
    serves_from_places (YieldsList-from_first (λ x. x) row (branches_of t c.args.u) c.branches.ensures) (λ x q k. search (rules, tests))
    (λ x k l e. let b = row_branch t c.args.u k x l in let within : x < t.sections = omega (arith, b.within) in search (rules, within))

pub returns : goal.returns
returns c =
    let x = c.args.self.now in
    let calm = λ (k : ℕ). demand_of x.track.sections x.track.inner x.wagons.in_section x.berths.in_section k ≡ pos 0 in
    unsettled_any x c.args.u c.any.result
    (cases_from_any c.any.new.self _ _ (λ k. calm k → ⊥) calm c.any.ensures.ran (YieldsList-from_first (λ k. k) row (branches_of x.track c.args.u) c.branches.ensures)
    (λ k q h. search (rules, tests)) (λ k q h. search (rules, tests)))
