-- Where the cursors of a planner begin: at the lowest branches.
use Rattle.std.proofs.Common.{◌≡◌, ℕ, ◌<◌, List, get_or, subst, arith}
use Rattle.motion.specs.Tree.{Branch}
use Rattle.siding.specs.declared.track.Track.{Track}
use Rattle.siding.specs.Kept.{FirstIsLowest, FirstIsBranch}
use Rattle.lists.specs.Cursors.{AtBranches, IsLowestBranch}

-- what a track lends as the lowest branches of its sections
pub lowest_is : (t own : Track) (first : List ℕ) → t ≡ own → FirstIsLowest t.sections t.inner first → FirstIsBranch t.sections t.inner first → (u : ℕ) → IsLowestBranch own.sections own.inner u (get_or first u 0)
lowest_is t own first same lowest branch u =
    subst (λ (k : Track). IsLowestBranch k.sections k.inner u (get_or first u 0)) same (record {
      here = λ some. record { outer = some; within = (branch u some).0; hangs = (branch u some).1 };
      lowest = λ k b. lowest u k b;
    })

module _ (n : ℕ) (inner at : List ℕ) (lowest : (u : ℕ) → IsLowestBranch n inner u (get_or at u 0)) where
  pub begun_at : AtBranches n inner at
  begun_at u some = let b = (lowest u).here some in (b.within, b.hangs)

  -- no branch lies before the lowest
  pub none_passed : (P : ℕ → Type 0) (u k : ℕ) → Branch n inner u k → (0 < get_or at u 0 → k < get_or at u 0) → P k → ⊥
  none_passed P u k b passed p = let l = (lowest u).lowest k b in let before = passed l.0 in omega (arith, l.1)
