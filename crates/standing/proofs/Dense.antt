-- The numbers of the standings of n sections with k wagons are 0 to C(n, k) - 1, each for one standing.
use Rattle.std.proofs.Common.{◌≡◌, ℕ, zero, suc, ◌+◌, ◌<◌, ◌≤◌, false, List, [], ◌∷◌, length, sym, ◌∙◌, ⊎_elim, add-zero, zero-add, add-one, arith}
use Rattle.std.proofs.lemmas.Bool.{cases_lt}
use Rattle.standing.specs.Choose.{choose}
use Rattle.standing.specs.Number.{out_of_range}
use Rattle.standing.specs.Standings.{Stands, NumbersAreDense}
use Rattle.standing.proofs.Split.{SplitAt, split_first, split_last, over_empty, over_wagon, no_other, under_empty, under_wagon, stands_split, split_stands}
use Rattle.standing.proofs.Steps.{nothing_more}

-- a number that fits below some section still fits at the end
fits_all : (s : List ℕ) (c k x : ℕ) {K X : ℕ} → SplitAt c k x s K X → X < choose (c + length s) K
fits_all [] c k x g = grind (arith, nothing_more g.comes_to)
fits_all (zero ∷ s) c k x g = grind (arith, fits_all s (c + 1) k x (over_empty c g))
fits_all (suc zero ∷ s) c k x g = grind (arith, fits_all s (c + 1) (k + 1) (x + choose c (k + 1)) (over_wagon c g))
fits_all (suc (suc b) ∷ s) c k x g = absurd (no_other c b g)

-- there are bytes for the sections below c, before those from c on
some_bytes : (c k x : ℕ) {t : List ℕ} {K X : ℕ} → SplitAt c k x t K X → (s : List ℕ) × (length s ≡ c + length t) × SplitAt 0 0 0 s K X
some_bytes zero k x {t} g = (t, sym (zero-add (length t)), split_first g)
some_bytes (suc c) k x {t} {K} {X} g =
    let h : SplitAt (c + 1) k x t K X = rw add-one g in
    let e : c + suc (length t) ≡ suc c + length t = omega arith in
    ⊎_elim
    (λ (l : x < choose c k). rw e at (some_bytes c _ _ (under_empty c h l)))
    (λ (l : choose c k ≤ x). rw e at (some_bytes c _ _ (under_wagon c h l)))
    (cases_lt x (choose c k))

record Same (s t : List ℕ) (k l x y : ℕ) : Type 0 where
  bytes : s ≡ t
  wagons : k ≡ l
  number : x ≡ y

-- bytes from a section on that come to the same are the same, and so is what stands below
same : (s t : List ℕ) (c : ℕ) {k l x y K X : ℕ} → length s ≡ length t → SplitAt c k x s K X → SplitAt c l y t K X → Same s t k l x y
same [] [] c n g h = grind arith
same [] (b ∷ t) c n g h = grind arith
same (b ∷ s) [] c n g h = grind arith
same (zero ∷ s) (zero ∷ t) c n g h = grind (arith, same s t (c + 1) (omega arith) (over_empty c g) (over_empty c h))
same (zero ∷ s) (suc zero ∷ t) c {k} {l} {x} {y} n g h = grind (arith, same s t (c + 1) (omega arith) (over_empty c g) (over_wagon c h))
same (suc zero ∷ s) (zero ∷ t) c {k} {l} {x} {y} n g h = grind (arith, same s t (c + 1) (omega arith) (over_wagon c g) (over_empty c h))
same (suc zero ∷ s) (suc zero ∷ t) c {k} {l} n g h = grind (arith, same s t (c + 1) (omega arith) (over_wagon c g) (over_wagon c h))
same (zero ∷ s) (suc (suc b) ∷ t) c n g h = absurd (no_other c b h)
same (suc zero ∷ s) (suc (suc b) ∷ t) c n g h = absurd (no_other c b h)
same (suc (suc a) ∷ s) (b ∷ t) c n g h = absurd (no_other c a g)

module _ (n k : ℕ) where
  pub none_above : (x : ℕ) (s : List ℕ) → Stands n k x s → x < choose n k
  none_above x s h = grind (arith, fits_all s 0 0 0 (stands_split h))

  pub none_twice : (x : ℕ) (s t : List ℕ) → Stands n k x s → Stands n k x t → s ≡ t
  none_twice x s t g h = (same s t 0 (g.size ∙ sym h.size) (stands_split g) (stands_split h)).bytes

  pub dense : out_of_range n ≡ false → NumbersAreDense n k (choose n k)
  dense o =
      record {
        none_above = none_above;
        none_missing =
            λ x h.
            let p = some_bytes n k x (split_last n k x h) in
            (p.0, split_stands o (p.1 ∙ add-zero n) p.2);
        none_twice = none_twice;
      }
