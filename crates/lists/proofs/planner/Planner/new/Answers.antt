use Rattle.std.proofs.Common.{ℕ, ◌≤◌, List, length, get_or, ℤ, pos, sym, ap, ◌∙◌, subst}
use Rattle.motion.specs.Tree.{total}
use Rattle.motion.specs.Demand.{demand_of}
use Rattle.lists.specs.Cursors.{IsLowestBranch}
use Rattle.lists.proofs.Begins.{lowest_is, begun_at, none_passed}
use Rattle.lists.proofs.planner.Planner.new.Goals as goal

pub invariant_of-result : goal.invariant_of-result
invariant_of-result c =
    let x = c.args.siding.now in
    let n = x.track.sections in
    let first = c.lowest_branches-first in
    let at = first.result.now in
    let wagons = c.layout-layout.ensures.wagons in
    let demand = c.layout-layout.ensures.demand in
    let lowest : (u : ℕ) → IsLowestBranch n x.track.inner u (get_or at u 0) = lowest_is _ _ at c.layout-layout.ensures.track first.ensures.lowest first.ensures.branch in
    record {
      long = (ap length wagons ∙ x.wagons.long, ap length demand ∙ x.long);
      long_too = (first.ensures.long, first.ensures.long);
      one_wagon = λ s l. subst (λ (w : List ℕ). get_or w s 0 ≤ 1) (sym wagons) (x.wagons.single s);
      equal = ap (total n) wagons ∙ c.requires;
      demands = λ s l.
          ap (λ (d : List ℤ). get_or d s (pos 0)) demand
          ∙ x.demands s l
          ∙ ap (λ (w : List ℕ). demand_of n x.track.inner w x.berths.in_section s) (sym wagons);
      outward_at = begun_at n x.track.inner at lowest;
      inward_at = begun_at n x.track.inner at lowest;
      outward_passed = none_passed n x.track.inner at lowest _;
      inward_passed = none_passed n x.track.inner at lowest _;
    }

pub returns-clause-outward : goal.returns-clause-outward
returns-clause-outward c = let first = c.lowest_branches-first in lowest_is _ _ first.result.now c.layout-layout.ensures.track first.ensures.lowest first.ensures.branch

pub returns-clause-inward : goal.returns-clause-inward
returns-clause-inward c = let first = c.lowest_branches-first in lowest_is _ _ first.result.now c.layout-layout.ensures.track first.ensures.lowest first.ensures.branch
