-- The bytes of a buffer while a standing is written into it from its last section to its first.
use Rattle.std.proofs.lemmas.Grind.{common_steps}
use Rattle.std.proofs.Common.{◌≡◌, ℕ, ◌+◌, ◌-◌, ◌<◌, ◌≤◌, false, List, ◌∷◌, length, take, drop, set, arith, rules}
use lib.Seq.{take-set-lt}
use Rattle.std.proofs.lemmas.List.{drop_all, drop-set, drop-set-lt, length-set, length-take-le}
use Rattle.standing.specs.Choose.{choose}
use Rattle.standing.specs.Number.{out_of_range}
use Rattle.standing.specs.Standings.{Stands}
use Rattle.standing.proofs.Split.{SplitAt, split_first, split_last, under_empty, under_wagon, wagon_left, split_stands}

-- the sections from c on are written, and the bytes after the standing are as before
pub record WrittenFrom (n k x : ℕ) (before after : List ℕ) (c i y : ℕ) : Type 0 where
  pub room : n ≤ length after
  pub split : SplitAt c i y (drop c (take n after)) k x
  pub rest : drop n after ≡ drop n before

module _ (n k x : ℕ) (before : List ℕ) where
  pub written_none : n ≤ length before → x < choose n k → WrittenFrom n k x before before n k x
  written_none room fits = search (rules, drop_all, split_last)

  module _ (after : List ℕ) (c i y : ℕ) (positive : 0 < c) (within : c ≤ n) (w : WrittenFrom n k x before after c i y) where
    -- what is split at c, where c is the successor of c - 1
    split_below : SplitAt (c - 1 + 1) i y (drop (c - 1 + 1) (take n after)) k x
    split_below = grind arith

    put : (v : ℕ) → drop (c - 1) (take n (set after (c - 1) v)) ≡ v ∷ drop (c - 1 + 1) (take n after)
    put v = grind (arith, common_steps, take-set-lt, drop-set)

    with_put : (v j z : ℕ) → SplitAt (c - 1) j z (v ∷ drop (c - 1 + 1) (take n after)) k x → WrittenFrom n k x before (set after (c - 1) v) (c - 1) j z
    with_put v j z h = grind (arith, length-set, put, drop-set-lt)

    pub written_empty : y < choose (c - 1) i → WrittenFrom n k x before (set after (c - 1) 0) (c - 1) i y
    written_empty h = with_put 0 _ _ (under_empty (c - 1) split_below h)

    pub wagon_placed : choose (c - 1) i ≤ y → 1 ≤ i
    wagon_placed h = wagon_left (c - 1) split_below h

    pub written_wagon : choose (c - 1) i ≤ y → WrittenFrom n k x before (set after (c - 1) 1) (c - 1) (i - 1) (y - choose (c - 1) i)
    written_wagon h = with_put 1 _ _ (under_wagon (c - 1) split_below h)

  pub written_all : {after : List ℕ} {i y : ℕ} → out_of_range n ≡ false → WrittenFrom n k x before after 0 i y → Stands n k x (take n after)
  written_all {after} o w = search (rules, split_stands, length-take-le, split_first)
