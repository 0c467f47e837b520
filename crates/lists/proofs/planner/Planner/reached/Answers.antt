use Rattle.std.proofs.Common.{refl, subst, rules}
use Rattle.std.proofs.lemmas.Iterator.{first_from_find}
use Rattle.std.proofs.lemmas.Iterator.Adapters.{serves_from_places}
use Rattle.std.proofs.lemmas.Iterator.Consumers.{YieldsList-from_first}
use Rattle.siding.specs.Branches.{row, row_from}
use Rattle.lists.proofs.Sought.{FoundIn, row_small}
use Rattle.lists.proofs.Searches.{AsksPassed, found_asking}
use Rattle.lists.proofs.planner.Planner.reached.Goals as goal

pub find-requires-clause-callable : goal.find-requires-clause-callable
find-requires-clause-callable c =
    serves_from_places (YieldsList-from_first (λ x. x) row _ refl) (λ x q h. search rules)
    (λ x k l at. let small = row_small c.branches_from.result.track.now c.branches_from.result.at k x l at in search rules)

pub returns : goal.returns
returns c =
    let p = c.args.self.now in
    let t = c.layout.result.track.now in
    let asks = AsksPassed p c.args.way in
    let found : FoundIn asks (row_from t c.cursor.result) c.find.result =
    first_from_find c.find.new.self _ c.find.result asks (λ k. asks k → ⊥) c.find.ensures.ran (YieldsList-from_first (λ x. x) row (row_from t c.cursor.result) c.branches_from.ensures)
    (λ x q h. search rules) (λ x q h. search rules) in
    found_asking p c.args.way c.args.u c.find.result
    (subst (λ k. FoundIn asks (row_from p.siding.now.track k) c.find.result) c.cursor.ensures (subst (λ y. FoundIn asks (row_from y c.cursor.result) c.find.result) c.layout.ensures.track found))
