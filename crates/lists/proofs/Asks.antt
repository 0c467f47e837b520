-- What a planner keeps, in the forms that the proofs of its parts use.
use Rattle.std.proofs.Common.{◌≡◌, ℕ, ◌<◌, ◌≤◌, get_or, pos, nat_abs, ap, subst, arith, w16, to_z, of_z}
use Rattle.std.proofs.lemmas.Int.{ints}
use Rattle.motion.specs.Due.{Asked, Asks}
use Rattle.motion.specs.Stepping.{Even}
use Rattle.motion.specs.declared.ways.Way.{Way}
use Rattle.motion.proofs.Bounds.{demands_within}
use Rattle.siding.specs.declared.siding.Siding.{Siding}
use Rattle.siding.proofs.Held.{held_tree, one_berth}
use Rattle.lists.specs.declared.planner.Planner.{Planner}

module _ (p : Planner) where
  pub even : Even p.siding.now.track.sections p.siding.now.track.inner p.wagons p.siding.now.berths.in_section
  even = record {
    some = omega (arith, p.siding.now.track.some);
    tree = held_tree p.siding.now;
    long = omega (arith, p.siding.now.track.most, p.long.0);
    one_wagon = p.one_wagon;
    one_berth = one_berth p.siding.now;
    equal = p.equal;
  }

  pub even_on : (x : Siding) → p.siding.now ≡ x → Even x.track.sections x.track.inner p.wagons x.berths.in_section
  even_on x is = subst (λ y. Even y.track.sections y.track.inner p.wagons y.berths.in_section) is even

  -- no demand is larger than the sections are many
  pub small_demand : (k : ℕ) → k < p.siding.now.track.sections → nat_abs (get_or p.demand k (pos 0)) ≤ 512
  small_demand k l =
      let e = ap nat_abs (p.demands k l) in
      let b = demands_within p.siding.now.track.sections p.siding.now.track.inner p.wagons p.siding.now.berths.in_section p.siding.now.track.most p.one_wagon (one_berth p.siding.now) k in
      omega arith

  -- so what the program passes on is what is stored
  pub stored : (k : ℕ) → k < p.siding.now.track.sections → to_z w16 (of_z w16 (get_or p.demand k (pos 0))) ≡ get_or p.demand k (pos 0)
  stored k l = let small = small_demand k l in omega (arith, ints)

  -- a branch asks if the demand that is kept for it does
  pub asked_asks : (way : Way) (k : ℕ) → k < p.siding.now.track.sections → Asked way (get_or p.demand k (pos 0)) → Asks way p.siding.now.track.sections p.siding.now.track.inner p.wagons p.siding.now.berths.in_section k
  asked_asks way k l a = rw (p.demands k l) at a

  pub asks_asked : (way : Way) (k : ℕ) → k < p.siding.now.track.sections → Asks way p.siding.now.track.sections p.siding.now.track.inner p.wagons p.siding.now.berths.in_section k → Asked way (get_or p.demand k (pos 0))
  asks_asked way k l a = rw (p.demands k l) a
