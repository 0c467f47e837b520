-- What the sums below the sections are after the entry of one section has changed, and after a wagon has moved.
use Rattle.std.proofs.lemmas.Grind.{common_steps}
use Rattle.std.proofs.Common.{◌≡◌, ℕ, ◌+◌, ◌-◌, ◌<◌, ◌≤◌, cond, eqb, List, length, get_or, set, arith, rules}
use Rattle.std.proofs.lemmas.List.{length-set}
use Rattle.std.proofs.lemmas.Bool.{ne_eqb}
use Rattle.motion.specs.declared.moves.Move.{Move}
use Rattle.motion.specs.Tree.{Tree, Branch, is_below, total, under}
use Rattle.motion.specs.Demand.{Single}
use Rattle.motion.specs.Moves.{one_less, one_more, moved, Legal, crosses_inward, crosses_outward, one_if}
use Rattle.motion.proofs.Sums.{sum_one}
use Rattle.motion.proofs.Underneath.{below_inner, below_high}

module _ (n : ℕ) (xs : List ℕ) (s : ℕ) (l : s < n) (long : n ≤ length xs) where
  pub single_more : get_or xs s 0 ≡ 0 → Single n xs → Single n (one_more xs s)
  single_more none single = search rules

  pub single_less : Single n xs → Single n (one_less xs s)
  single_less single = search rules

  total_set : (v : ℕ) → total n (set xs s v) + get_or xs s 0 ≡ total n xs + v
  total_set v = grind (arith, common_steps, sum_one (λ t. get_or xs t 0) (λ t. get_or (set xs s v) t 0) n s l)

  under_set : (inner : List ℕ) (t v : ℕ) → under n inner (set xs s v) t + cond (is_below inner t s) (get_or xs s 0) 0 ≡ under n inner xs t + cond (is_below inner t s) v 0
  unfolding under
  under_set inner t v = grind (arith, common_steps, sum_one (λ u. cond (is_below inner t u) (get_or xs u 0) 0) (λ u. cond (is_below inner t u) (get_or (set xs s v) u 0) 0) n s l)

  pub total_more : total n (one_more xs s) ≡ total n xs + 1
  total_more = let e = total_set (get_or xs s 0 + 1) in omega arith

  pub total_less : 0 < get_or xs s 0 → total n (one_less xs s) + 1 ≡ total n xs
  total_less some = let e = total_set (get_or xs s 0 - 1) in omega arith

  -- one more at s: one more below each section that s lies below
  pub under_more : (inner : List ℕ) (t : ℕ) → under n inner (one_more xs s) t ≡ under n inner xs t + one_if (is_below inner t s)
  under_more inner t = grind (arith, under_set)

  -- one less at s
  pub under_less : 0 < get_or xs s 0 → (inner : List ℕ) (t : ℕ) → under n inner (one_less xs s) t + one_if (is_below inner t s) ≡ under n inner xs t
  under_less some inner t = grind (arith, under_set)

module _ (n : ℕ) (inner : List ℕ) (tree : Tree n inner) (wagons : List ℕ) (m : Move) (legal : Legal n inner wagons m) where
  pub length_moved : length (moved wagons m) ≡ length wagons
  length_moved = search rules

  pub total_moved : n ≤ length wagons → total n (moved wagons m) ≡ total n wagons
  total_moved long = grind (arith, total_less, total_more, length-set)

  -- a wagon less below what it came from, and one more below where it went
  under_moved : n ≤ length wagons → (t : ℕ) → under n inner (moved wagons m) t + one_if (is_below inner t m.from) ≡ under n inner wagons t + one_if (is_below inner t m.to)
  under_moved long t = grind (arith, under_less, under_more, length-set)

  -- what lies below a section of which b is a branch, and b
  branch_below : (a b t : ℕ) → Branch n inner a b → one_if (is_below inner t b) ≡ one_if (eqb b t) + one_if (is_below inner t a)
  branch_below a b t branch = grind (arith, below_inner, below_high, ne_eqb)

  -- a legal move crosses its higher section, in its direction
  pub moved_crosses : n ≤ length wagons → (t : ℕ) → under n inner (moved wagons m) t + one_if (crosses_inward t m) ≡ under n inner wagons t + one_if (crosses_outward t m)
  moved_crosses long t = grind (arith, under_moved, branch_below)
