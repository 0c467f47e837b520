use Rattle.std.proofs.Common.{◌≡◌, ℤ, get_or, pos, sym, ap, ◌∙◌, subst, arith, w16, to_z, of_z}
use Rattle.std.proofs.lemmas.Int.{ints}
use Rattle.motion.specs.declared.ways.Way.TheVariants.{Outward, Inward}
use Rattle.motion.specs.Moves.{moved}
use Rattle.motion.specs.Due.{Eased}
use Rattle.lists.proofs.Asks.{small_demand, stored}
use Rattle.lists.proofs.Carries.{carried}
use Rattle.lists.proofs.planner.Planner.carry.Goals as goal

pub eased-requires : goal.eased-requires
eased-requires c = let small = small_demand c.args.self.now c.args.v c.requires.branch.within in omega (arith, ints)

pub invariant_of-self : goal.invariant_of-self
invariant_of-self c =
    let p = c.args.self.now in
    let now : ℤ = to_z w16 (of_z w16 c.eased.result) in
    let same : now ≡ c.eased.result = omega (arith, ints) in
    let eased = subst (λ d. Eased c.args.way d c.eased.result) (stored p c.args.v c.requires.branch.within) c.eased.ensures in
    let nearer = subst (λ z. Eased c.args.way (get_or p.demand c.args.v (pos 0)) z) (sym same) eased in
    let kept = carried p c.args.way c.args.u c.args.v c.requires now nearer _ (c.move_wagon.ensures ∙ ap (moved p.wagons) c.move_over-m.ensures) in
    record {
      long = kept.long;
      long_too = p.long_too;
      one_wagon = kept.one_wagon;
      equal = kept.equal;
      demands = kept.demands;
      outward_at = p.outward_at;
      inward_at = p.inward_at;
      outward_passed = kept.passed Outward p.outward p.outward_passed;
      inward_passed = kept.passed Inward p.inward p.inward_passed;
    }
