use Rattle.std.proofs.Common.{◌<◌, arith, rules, tests}
use Rattle.std.proofs.lemmas.Iterator.{first_from_find}
use Rattle.std.proofs.lemmas.Iterator.Adapters.{serves_from_places}
use Rattle.std.proofs.lemmas.Iterator.Consumers.{YieldsList-from_first}
use Rattle.motion.specs.Due.{Asks}
use Rattle.siding.specs.Branches.{row, branches_of}
use Rattle.siding.proofs.Searched.{row_branch, picked}
use Rattle.siding.proofs.siding.Siding.asking.Goals as goal

pub find-requires-clause-callable : goal.find-requires-clause-callable
find-requires-clause-callable c =
    let t = c.args.self.now.track in
    serves_from_places (YieldsList-from_first (λ x. x) row (branches_of t c.args.u) c.branches.ensures) (λ x q k. search (rules, tests))
    (λ x k l e. let b = row_branch t c.args.u k x l in let within : x < t.sections = omega (arith, b.within) in search (rules, within))

pub returns : goal.returns
returns c =
    let x = c.args.self.now in
    let asks = Asks c.args.way x.track.sections x.track.inner x.wagons.in_section x.berths.in_section in
    picked x c.args.way c.args.u c.find.result
    (first_from_find c.find.new.self _ _ asks (λ k. asks k → ⊥) c.find.ensures.ran (YieldsList-from_first (λ k. k) row (branches_of x.track c.args.u) c.branches.ensures)
    (λ k q h. search (rules, tests)) (λ k q h. search (rules, tests)))
