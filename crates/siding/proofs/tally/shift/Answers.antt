use Rattle.std.proofs.Common.{◌≡◌, ℕ, ◌<◌, ◌≤◌, cond, ◌≢◌, get_or, set, ℤ, pos, ◌+ℤ◌, nat_abs, sym, ap, ◌∙◌, arith, w16, to_z, of_z}
use Rattle.std.proofs.lemmas.List.{length-set, get_or-set_same, get_or-set_other}
use Rattle.std.proofs.lemmas.Int.{ints}
use Rattle.motion.specs.Tree.{is_below}
use Rattle.siding.proofs.Way.{sizes_set, sizes_neck, sizes_part, sizes_most, passed_small, passed_more, passed_all}
use Rattle.siding.proofs.Held.{track_tree}
use Rattle.siding.proofs.tally.shift.Goals as goal

stored_is : (z : ℤ) → nat_abs z ≤ 1000 → to_z w16 (of_z w16 z) ≡ z
stored_is z small = omega (arith, ints)

pub resized-sum-requires : goal.resized-sum-requires
resized-sum-requires c =
    let n : ℕ = c.args.track.now.sections in
    let most = c.args.track.now.most in
    let u : ℕ = c.loop-u.u in
    let d = c.loop-u.demand in
    let one : nat_abs (to_z w16 (of_z w16 c.args.by)) ≤ 1 = let b = c.requires.one in omega (arith, ints) in
    let all = passed_small n c.args.track.now.inner (track_tree c.args.track.now) c.args.at u _ c.args.demand.now d c.loop-u.invariant.1 (omega arith) c.loop-u.invariant.2 one c.requires.small in
    let here = all u c.loop-u.invariant.1 in
    let part = sizes_part n d u (omega arith) c.loop-u.invariant.1 in
    let most = sizes_most n d 514 all in
    let same = get_or-set_same d u (to_z w16 (of_z w16 (to_z w16 (of_z w16 (get_or d u (pos 0))) +ℤ to_z w16 (of_z w16 c.args.by)))) (pos 0) (omega arith) in
    record {
      part = omega (arith, ints);
      most = omega arith;
      small = omega (arith, ints);
    }

pub loop-u-preserved : goal.loop-u-preserved
loop-u-preserved c =
    let n : ℕ = c.args.track.now.sections in
    let most = c.args.track.now.most in
    let u : ℕ = c.loop-u.u in
    let d = c.loop-u.demand in
    let inner = c.args.track.now.inner in
    let B : ℤ = to_z w16 (of_z w16 c.args.by) in
    let z : ℤ = to_z w16 (of_z w16 (to_z w16 (of_z w16 (get_or d u (pos 0))) +ℤ B)) in
    let one : nat_abs B ≤ 1 = let b = c.requires.one in omega (arith, ints) in
    let all = passed_small n inner (track_tree c.args.track.now) c.args.at u B c.args.demand.now d c.loop-u.invariant.1 (omega arith) c.loop-u.invariant.2 one c.requires.small in
    let here = all u c.loop-u.invariant.1 in
    let is : z ≡ get_or d u (pos 0) +ℤ B = omega (arith, ints) in
    let low : get_or inner u 0 < u = (track_tree c.args.track.now).lower u (omega arith) c.loop-u.invariant.1 in
    let same = get_or-set_same d u z (pos 0) (omega arith) in
    let put = sizes_set n d u z (omega arith) c.loop-u.invariant.1 (omega arith) in
    let r = c.resized-sum.ensures in
    let was = ap nat_abs (stored_is (get_or d u (pos 0)) (omega arith)) in
    let small : nat_abs z ≤ 1000 = omega (arith, ints) in
    let now = ap nat_abs (stored_is (get_or (set d u z) u (pos 0)) (omega (arith, ap nat_abs same)) ∙ same) in (
      simp length-set c.loop-u.invariant.0,
      omega arith,
      rw c.from-u.ensures (passed_more n inner (track_tree c.args.track.now) c.args.at u B c.args.demand.now d c.loop-u.invariant.1 (omega arith) c.loop-u.invariant.2 (omega arith) z is),
      (λ v l. let ne : v ≢ u = omega arith in get_or-set_other d u v z (pos 0) ne ∙ c.loop-u.invariant.3 v l),
      omega arith,
    )

pub returns : goal.returns
returns c =
    let n : ℕ = c.args.track.now.sections in
    let most = c.args.track.now.most in
    let u : ℕ = c.loop-u.u in
    let d = c.loop-u.demand in
    let inner = c.args.track.now.inner in
    let B : ℤ = to_z w16 (of_z w16 c.args.by) in
    let z : ℤ = to_z w16 (of_z w16 (to_z w16 (of_z w16 (get_or d 0 (pos 0))) +ℤ B)) in
    let one : nat_abs B ≤ 1 = let b = c.requires.one in omega (arith, ints) in
    let raw : B ≡ c.args.by = let b = c.requires.one in omega (arith, ints) in
    let neck : u ≡ 0 = omega arith in
    let all = passed_small n inner (track_tree c.args.track.now) c.args.at u B c.args.demand.now d c.loop-u.invariant.1 (omega arith) c.loop-u.invariant.2 one c.requires.small in
    let here = all 0 (omega arith) in
    let is : z ≡ get_or d 0 (pos 0) +ℤ B = omega (arith, ints) in
    let done = passed_all n inner (track_tree c.args.track.now) c.args.at u B c.args.demand.now d c.loop-u.invariant.1 (omega arith) c.loop-u.invariant.2 neck z is in
    record {
      demands = λ s l. done s l ∙ ap (λ b. get_or c.args.demand.now s (pos 0) +ℤ cond (is_below inner s c.args.at) b (pos 0)) raw;
      past = λ s l. let ne : s ≢ 0 = omega arith in get_or-set_other d 0 s z (pos 0) ne ∙ c.loop-u.invariant.3 s l;
      figure = c.loop-u.invariant.4 ∙ sym (sizes_neck n d z);
    }
