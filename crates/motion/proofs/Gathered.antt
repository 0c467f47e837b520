-- Sums below the sections, gathered from the highest section down: what a section has is added to its inner neighbour's.
use Rattle.std.proofs.Common.{◌≡◌, ℕ, ◌+◌, ◌<◌, ◌≤◌, cond, ◌&&◌, leb, ◌≢◌, List, get_or, arith}
use Rattle.motion.specs.Tree.{Tree, is_branch, sum_to, under}
use Rattle.motion.proofs.Sums.{sum_one, sum_zero, sum_below}
use Rattle.motion.proofs.Splits.{sum_below_splits}

-- what a branch c of u adds once the sections from k on are gathered
unfoldable pub part : ℕ → ℕ → List ℕ → List ℕ → ℕ → ℕ → ℕ
part k n inner xs u c = cond (leb k c && is_branch inner u c) (under n inner xs c) 0

-- the own entry of u, and the sums below those of its branches whose number is at least k
unfoldable pub gathered : ℕ → ℕ → List ℕ → List ℕ → ℕ → ℕ
gathered k n inner xs u = get_or xs u 0 + sum_to (part k n inner xs u) n

-- at first the own entries
pub gathered_none : (n : ℕ) (inner xs : List ℕ) (u : ℕ) → gathered n n inner xs u ≡ get_or xs u 0
unfolding gathered part
gathered_none n inner xs u = grind (arith, sum_zero)

module _ (n : ℕ) (inner : List ℕ) (tree : Tree n inner) where
  -- of the sections from k on every branch is gathered
  pub gathered_all : (k : ℕ) (xs : List ℕ) (u : ℕ) → u < n → k ≤ u + 1 → gathered k n inner xs u ≡ under n inner xs u
  unfolding gathered part
  gathered_all k xs u l h = grind (arith, sum_below_splits)

  -- a section more is gathered: its inner neighbour has its sum now
  pub gathered_inner : (k s : ℕ) (xs : List ℕ) → 0 < s → s < n → k ≡ s + 1 → gathered s n inner xs (get_or inner s 0) ≡ gathered k n inner xs (get_or inner s 0) + under n inner xs s
  unfolding gathered part
  gathered_inner k s xs z l e = grind (arith, sum_one (part k n inner xs (get_or inner s 0)) (part s n inner xs (get_or inner s 0)) n s l)

  -- and the others have what they had
  pub gathered_other : (k s : ℕ) (xs : List ℕ) (u : ℕ) → k ≡ s + 1 → u ≢ get_or inner s 0 → gathered s n inner xs u ≡ gathered k n inner xs u
  unfolding gathered part
  gathered_other k s xs u e ne = grind arith

  -- no more is gathered than there is
  pub gathered_most : (k : ℕ) (xs : List ℕ) (u : ℕ) → u < n → gathered k n inner xs u ≤ under n inner xs u
  unfolding gathered part
  gathered_most k xs u l = grind (arith, sum_below, sum_below_splits)
