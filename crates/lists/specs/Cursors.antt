-- The cursors of a planner, one way: for each section, the branch that the search for one that asks has come to, 0 past
-- the last.
use Rattle.std.specs.Prelude.{◌≡◌, ℕ, ◌<◌, ◌≤◌, List, ℤ, pos, slice_index, slice_index_or}
use Rattle.motion.specs.declared.ways.Way.{Way}
use Rattle.motion.specs.Tree.{Branch}
use Rattle.motion.specs.Due.{Asked}

-- each stands at a branch of its section, if it is not past the last
abbrev pub AtBranches : ℕ → List ℕ → List ℕ → Type 0
AtBranches n inner at = (u : ℕ) → 0 < slice_index at u → (slice_index at u < n) × (slice_index inner (slice_index at u) ≡ u)

-- no branch that one has passed asks
abbrev pub PassedAskNot : Way → ℕ → List ℕ → List ℤ → List ℕ → Type 0
PassedAskNot way n inner demand at =
    (u k : ℕ) → Branch n inner u k → (0 < slice_index at u → k < slice_index at u) → Asked way (slice_index_or demand k (pos 0)) → ⊥

-- c is the lowest branch of u, or 0 where u has none
pub record IsLowestBranch (n : ℕ) (inner : List ℕ) (u c : ℕ) : Type 0 where
  pub here : 0 < c → Branch n inner u c
  pub lowest : (k : ℕ) → Branch n inner u k → (0 < c) × (c ≤ k)
