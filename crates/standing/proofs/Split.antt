-- A standing split at a section: what stands below it is known by its wagons and their part of the number.
use Rattle.std.proofs.Common.{◌≡◌, ℕ, suc, ◌+◌, ◌-◌, ◌<◌, ◌≤◌, false, List, [], ◌∷◌, length, None, ◌∙◌, arith, rules}
use Rattle.standing.specs.Choose.{choose}
use Rattle.standing.specs.Number.{fault_from, out_of_range}
use Rattle.standing.specs.Standings.{Stands}
use Rattle.standing.proofs.Counts.{none_of_none, sum_of_two, grows, some_wagon, rest_fits, nothing_left}
use Rattle.standing.proofs.Steps.{ComesTo, before_empty, after_empty, before_wagon, after_wagon, at_end, no_fault, fault_here, fault_later}

-- below section c stand k wagons whose part of the number is x, and with the bytes s from c on K wagons and the number X
pub record SplitAt (c k x : ℕ) (s : List ℕ) (K X : ℕ) : Type 0 where
  pub fits : x < choose c k
  pub marks : fault_from c s ≡ None
  pub comes_to : ComesTo c k x s K X

-- split after the last section
pub split_last : (n k x : ℕ) → x < choose n k → SplitAt n k x [] k x
split_last n k x h = search (rules, no_fault, at_end)

-- split before the first, there is nothing below
pub split_first : {k x K X : ℕ} {s : List ℕ} → SplitAt 0 k x s K X → SplitAt 0 0 0 s K X
split_first {k} {x} h = grind (arith, nothing_left k x h.fits)

module _ (c : ℕ) {k x K X : ℕ} {s : List ℕ} where
  -- one section further up
  pub over_empty : SplitAt c k x (0 ∷ s) K X → SplitAt (c + 1) k x s K X
  over_empty h = grind (arith, grows c k, fault_later c 0 s, after_empty h.comes_to)

  pub over_wagon : SplitAt c k x (1 ∷ s) K X → SplitAt (c + 1) (k + 1) (x + choose c (k + 1)) s K X
  over_wagon h = grind (arith, sum_of_two c k, fault_later c 1 s, after_wagon h.comes_to)

  pub no_other : (b : ℕ) → SplitAt c k x (suc (suc b) ∷ s) K X → ⊥
  no_other b h = grind (arith, fault_here)

  module _ (h : SplitAt (c + 1) k x s K X) where
    -- one section further down, it is empty where x is below the choices of k from c
    pub under_empty : x < choose c k → SplitAt c k x (0 ∷ s) K X
    under_empty l = search (rules, fault_later, before_empty)

    -- and otherwise a wagon stands there
    pub wagon_left : choose c k ≤ x → 1 ≤ k
    wagon_left l = some_wagon c k x h.fits l

    pub under_wagon : choose c k ≤ x → SplitAt c (k - 1) (x - choose c k) (1 ∷ s) K X
    under_wagon l =
        let one : 1 ≤ k = wagon_left l in
        let e : k - 1 + 1 ≡ k = omega arith in
        let f : x - choose c k + choose c k ≡ x = omega arith in
        record {
          fits = rest_fits c k x one h.fits l;
          marks = fault_later c 1 s (omega arith) ∙ h.marks;
          comes_to = before_wagon (rw (e, f) h.comes_to);
        }

module _ {n k x : ℕ} {s : List ℕ} where
  -- a standing is split before its first section
  pub stands_split : Stands n k x s → SplitAt 0 0 0 s k x
  stands_split h = grind (arith, none_of_none)

  pub split_stands : out_of_range n ≡ false → length s ≡ n → SplitAt 0 0 0 s k x → Stands n k x s
  split_stands h e w = grind arith
