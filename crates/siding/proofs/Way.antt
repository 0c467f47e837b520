-- The way inward: the demands change at each section on it, and the figure with them.
use Rattle.std.proofs.Common.{◌≡◌, ℕ, ◌+◌, ◌-◌, ◌*◌, ◌<◌, ◌≤◌, Bool, true, false, cond, List, length, get_or, drop, set, ℤ, pos, ◌+ℤ◌, nat_abs, sym, ap, ◌∙◌, ⊎_elim, arith, w16, to_z, of_z}
use Rattle.std.proofs.lemmas.List.{get_or-set_same, get_or-set_other, get_or-take, get_or-drop}
use Rattle.std.proofs.lemmas.Int.{ints}
use Rattle.std.proofs.lemmas.Bool.{cases_eq, ne_eqb}
use Rattle.motion.specs.Tree.{Tree, is_below, sum_to}
use Rattle.motion.proofs.Sums.{sum_one, sum_same, sum_part, sum_most}
use Rattle.motion.proofs.Underneath.{below_self, below_neck, below_high, below_other}
use borrow.Rule.Slice.PartMut.{mid_of, mid_len}
use Rattle.std.specs.List.{sum_by}
use Rattle.siding.specs.Kept.{sizes}
use Rattle.siding.proofs.Counted.{by_places}

module _ (n : ℕ) (demand : List ℤ) where
  -- one demand but the neck's changes
  pub sizes_set : (s : ℕ) (z : ℤ) → 0 < s → s < n → s < length demand → sizes n (set demand s z) + nat_abs (get_or demand s (pos 0)) ≡ sizes n demand + nat_abs z
  unfolding sizes
  sizes_set s z p l m =
      let back : s - 1 + 1 ≡ s = omega arith in
      let one : sizes n (set demand s z) + nat_abs (get_or demand (s - 1 + 1) (pos 0)) ≡ sizes n demand + nat_abs (get_or (set demand s z) (s - 1 + 1) (pos 0)) =
      sum_one (λ k. nat_abs (get_or demand (k + 1) (pos 0))) (λ k. nat_abs (get_or (set demand s z) (k + 1) (pos 0))) (n - 1) (s - 1) (omega arith)
      (λ k h ne. sym (ap nat_abs (get_or-set_other demand s (k + 1) z (pos 0) (λ e. ne (omega arith))))) in
      ap (λ v. sizes n (set demand s z) + nat_abs (get_or demand v (pos 0))) (sym back)
      ∙ one
      ∙ ap (λ v. sizes n demand + nat_abs (get_or (set demand s z) v (pos 0))) back
      ∙ ap (λ v. sizes n demand + nat_abs v) (get_or-set_same demand s z (pos 0) m)

  -- the neck's plays no part
  pub sizes_neck : (z : ℤ) → sizes n (set demand 0 z) ≡ sizes n demand
  unfolding sizes
  sizes_neck z =
      sum_same (λ k. nat_abs (get_or (set demand 0 z) (k + 1) (pos 0))) (λ k. nat_abs (get_or demand (k + 1) (pos 0))) (n - 1)
      (λ k l. ap nat_abs (get_or-set_other demand 0 (k + 1) z (pos 0) (λ e. omega arith)))

  pub sizes_part : (s : ℕ) → 0 < s → s < n → nat_abs (get_or demand s (pos 0)) ≤ sizes n demand
  unfolding sizes
  sizes_part s p l =
      let back : s - 1 + 1 ≡ s = omega arith in
      let same = ap (λ v. nat_abs (get_or demand v (pos 0))) back in
      let part : nat_abs (get_or demand (s - 1 + 1) (pos 0)) ≤ sizes n demand = sum_part (λ k. nat_abs (get_or demand (k + 1) (pos 0))) (n - 1) (s - 1) (omega arith) in
      omega arith

  pub sizes_most : (m : ℕ) → ((s : ℕ) → s < n → nat_abs (get_or demand s (pos 0)) ≤ m) → sizes n demand ≤ (n - 1) * m
  unfolding sizes
  sizes_most m small = sum_most (λ k. nat_abs (get_or demand (k + 1) (pos 0))) m (n - 1) (λ k l. small (k + 1) (omega arith))

-- the demand of v once the sections from `at` in to u have changed, u not among them
abbrev pub Passed : List ℕ → ℕ → ℕ → ℤ → List ℤ → List ℤ → ℕ → Type 0
Passed inner at u by old new v = get_or new v (pos 0) +ℤ cond (is_below inner v u) by (pos 0) ≡ get_or old v (pos 0) +ℤ cond (is_below inner v at) by (pos 0)

pub cond_small : (b : Bool) (by : ℤ) → nat_abs by ≤ 1 → nat_abs (cond b by (pos 0)) ≤ 1
cond_small true by h = h
cond_small false by h = omega (arith, ints)

module _ (n : ℕ) (inner : List ℕ) (tree : Tree n inner) (at u : ℕ) (by : ℤ) (old new : List ℤ) (lu : u < n) (long : n ≤ length new)
    (passed : (v : ℕ) → v < n → Passed inner at u by old new v) where
  -- so far no demand has changed by more than two
  pub passed_small : nat_abs by ≤ 1 → ((v : ℕ) → v < n → nat_abs (get_or old v (pos 0)) ≤ 512) → (v : ℕ) → v < n → nat_abs (get_or new v (pos 0)) ≤ 514
  passed_small one small v l =
      let p = passed v l in
      let a = cond_small (is_below inner v u) by one in
      let b = cond_small (is_below inner v at) by one in
      let s = small v l in
      omega (arith, ints)

  at_itself : (z : ℤ) (v : ℕ) → v ≡ u → get_or (set new u z) v (pos 0) ≡ z
  at_itself z v e = ap (λ k. get_or (set new u z) k (pos 0)) e ∙ get_or-set_same new u z (pos 0) (omega arith)

  under_itself : (v : ℕ) → v ≡ u → cond (is_below inner v u) by (pos 0) ≡ by
  under_itself v e = ap (λ k. cond (is_below inner k u) by (pos 0)) e ∙ ap (λ b. cond b by (pos 0)) (below_self inner u)

  -- one section farther in
  pub passed_more : 0 < u → (z : ℤ) → z ≡ get_or new u (pos 0) +ℤ by → (v : ℕ) → v < n → Passed inner at (get_or inner u 0) by old (set new u z) v
  passed_more p z is v l =
      let low : get_or inner u 0 < u = tree.lower u p lu in
      let was = passed v l in
      ⊎_elim
      (λ (e : v ≡ u).
      let a = at_itself z v e in
      let o = ap (λ k. get_or new k (pos 0)) e in
      let b = under_itself v e in
      let c : cond (is_below inner v (get_or inner u 0)) by (pos 0) ≡ pos 0 = ap (λ k. cond k by (pos 0)) (below_high n inner tree v (get_or inner u 0) (omega arith) (omega arith)) in
      omega (arith, ints))
      (λ (ne : v ≡ u → ⊥).
      let a : get_or (set new u z) v (pos 0) ≡ get_or new v (pos 0) = get_or-set_other new u v z (pos 0) ne in
      let b : cond (is_below inner v u) by (pos 0) ≡ cond (is_below inner v (get_or inner u 0)) by (pos 0) = ap (λ k. cond k by (pos 0)) (below_other n inner tree v u p lu ne) in
      omega (arith, ints))
      (cases_eq v u)

  -- and at the neck
  pub passed_all : u ≡ 0 → (z : ℤ) → z ≡ get_or new 0 (pos 0) +ℤ by → (v : ℕ) → v < n → get_or (set new 0 z) v (pos 0) ≡ get_or old v (pos 0) +ℤ cond (is_below inner v at) by (pos 0)
  passed_all neck z is v l =
      let was = passed v l in
      ⊎_elim
      (λ (e : v ≡ u).
      let a = at_itself z v e in
      let n0 = ap (λ k. get_or (set new k z) v (pos 0)) neck in
      let o = ap (λ k. get_or new k (pos 0)) (e ∙ neck) in
      let b = under_itself v e in
      omega (arith, ints))
      (λ (ne : v ≡ u → ⊥).
      let a : get_or (set new 0 z) v (pos 0) ≡ get_or new v (pos 0) = get_or-set_other new 0 v z (pos 0) (λ e. ne (e ∙ sym neck)) in
      let b : cond (is_below inner v u) by (pos 0) ≡ pos 0 =
      ap (λ k. cond (is_below inner v k) by (pos 0)) neck ∙ ap (λ k. cond k by (pos 0)) (below_neck inner v ∙ ne_eqb v 0 (λ e. ne (e ∙ sym neck))) in
      omega (arith, ints))
      (cases_eq v u)

-- the sum over the places of a part of a list
module _ (n : ℕ) (demand : List ℤ) (long : n ≤ length demand) (small : (s : ℕ) → s < n → nat_abs (get_or demand s (pos 0)) ≤ 512) where
  abbrev stored_size : ℤ → ℕ
  stored_size z = nat_abs (to_z w16 (of_z w16 z))

  part : List ℤ
  part = mid_of 1 (n - 1) demand

  length_part : 1 ≤ n → length part ≡ n - 1
  unfolding part
  length_part some = mid_len 1 n demand long

  part_at : (k : ℕ) → k < n - 1 → get_or part k (pos 0) ≡ get_or demand (k + 1) (pos 0)
  unfolding part
  part_at k l = let e : 1 + k ≡ k + 1 = omega arith in get_or-take (n - 1) (drop 1 demand) k (pos 0) l ∙ get_or-drop 1 demand k (pos 0) ∙ ap (λ i. get_or demand i (pos 0)) e

  pub part_sizes : 1 ≤ n → (xs : List ℤ) → xs ≡ mid_of 1 (n - 1) demand → sum_by stored_size xs ≡ sizes n demand
  unfolding part sizes
  part_sizes some xs e =
      let size : ℤ → ℕ = λ z. nat_abs (to_z w16 (of_z w16 z)) in
      ap (sum_by size) e ∙ sym (by_places size (pos 0) part) ∙ ap (sum_to (λ t. size (get_or part t (pos 0)))) (length_part some)
      ∙ sum_same (λ t. size (get_or part t (pos 0))) (λ k. nat_abs (get_or demand (k + 1) (pos 0))) (n - 1)
      (λ k l. let s = small (k + 1) (omega arith) in let at = part_at k l in let same : to_z w16 (of_z w16 (get_or demand (k + 1) (pos 0))) ≡ get_or demand (k + 1) (pos 0) = omega (arith, ints) in
      ap size at ∙ ap nat_abs same)

  pub part_most : 1 ≤ n → (xs : List ℤ) → xs ≡ mid_of 1 (n - 1) demand → sum_by stored_size xs ≤ (n - 1) * 512
  part_most some xs e = let same = part_sizes some xs e in let most = sizes_most n demand 512 small in omega arith
