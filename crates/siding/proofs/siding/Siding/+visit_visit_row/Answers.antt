use Rattle.std.proofs.Common.{◌<◌, ◌∙◌, ap, sym, refl, rules}
use Rattle.std.proofs.lemmas.List.{map-id}
use Rattle.std.proofs.lemmas.Bool.Decides.{not_from_Decides}
use Rattle.std.proofs.lemmas.Iterator.Consumers.{YieldsList-from_first, YieldsList-so_far, YieldsList-turn, YieldsList-end}
use Rattle.siding.specs.Branches.{row, branches_of}
use Rattle.siding.proofs.Visits.{by_row, at_itself, turn_branch, branch_higher, found_in_row, one_more_calm, all_calm}
use Rattle.siding.proofs.siding.Siding.+visit_visit_row.Goals as goal

pub visit-returns-then-is_unsettled : goal.visit-returns-then-is_unsettled
visit-returns-then-is_unsettled t c = at_itself c.args.self.now c.args.u c.requires (c.if-is_unsettled.ensures.0 refl)

pub visit-returns-else-is_unsettled : goal.visit-returns-else-is_unsettled
visit-returns-else-is_unsettled t c = by_row _ _ c.visit_row.result (not_from_Decides c.is_unsettled.result c.is_unsettled.ensures c.if-is_unsettled.false) c.visit_row.ensures

pub visit_row-visit-found-requires : goal.visit_row-visit-found-requires
visit_row-visit-found-requires t c =
    let x = c.args.self.now in
    let u = c.args.u in
    let road = YieldsList-from_first (λ k. k) row (branches_of x.track u) (ap row c.into_iter-branch-iterator.ensures.into_iter_gives ∙ c.branches-branch-items.ensures) in
    let turn = YieldsList-turn road c.loop-branch.yielded c.loop-branch.branch-iterator c.loop-branch.yielded_by c.next.result c.next.new.self c.in-Some.branch c.in-Some.is c.next.ensures.steps in
    let b = turn_branch x u c.loop-branch.yielded c.loop-branch.invariant c.in-Some.branch (sym (map-id c.loop-branch.yielded) ∙ YieldsList-so_far road c.loop-branch.yielded c.loop-branch.branch-iterator c.loop-branch.yielded_by) turn in
    let higher : u < c.in-Some.branch = branch_higher x u c.in-Some.branch b in
    let within = b.within in
    (search rules, within)

pub visit_row-returns-then-is_some : goal.visit_row-returns-then-is_some
visit_row-returns-then-is_some t c =
    let x = c.args.self.now in
    let u = c.args.u in
    let road = YieldsList-from_first (λ k. k) row (branches_of x.track u) (ap row c.into_iter-branch-iterator.ensures.into_iter_gives ∙ c.branches-branch-items.ensures) in
    let turn = YieldsList-turn road c.loop-branch.yielded c.loop-branch.branch-iterator c.loop-branch.yielded_by c.next.result c.next.new.self c.in-Some.branch c.in-Some.is c.next.ensures.steps in
    found_in_row x u c.loop-branch.yielded c.loop-branch.invariant c.in-Some.branch (sym (map-id c.loop-branch.yielded) ∙ YieldsList-so_far road c.loop-branch.yielded c.loop-branch.branch-iterator c.loop-branch.yielded_by) turn
    c.visit-found.result (sym c.is_some.ensures ∙ c.if-is_some.true) c.visit-found.ensures

pub visit_row-loop-branch-preserved : goal.visit_row-loop-branch-preserved
visit_row-loop-branch-preserved t c =
    one_more_calm c.args.self.now c.args.u c.loop-branch.yielded c.loop-branch.invariant c.in-Some.branch c.visit-found.result (sym c.is_some.ensures ∙ c.if-is_some.false) c.visit-found.ensures

pub visit_row-returns : goal.visit_row-returns
visit_row-returns t c =
    let x = c.args.self.now in
    let u = c.args.u in
    let road = YieldsList-from_first (λ k. k) row (branches_of x.track u) (ap row c.into_iter-branch-iterator.ensures.into_iter_gives ∙ c.branches-branch-items.ensures) in
    let end = YieldsList-end road c.loop-branch.yielded c.loop-branch.branch-iterator c.loop-branch.yielded_by c.next.result c.next.new.self c.in-None.is c.next.ensures.steps in
    all_calm x u c.loop-branch.yielded c.loop-branch.invariant (sym (map-id c.loop-branch.yielded) ∙ end.0)
