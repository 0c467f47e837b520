-- What one byte adds to the wagons and to the number, and whether it is at fault.
use Rattle.std.proofs.Common.{◌≡◌, ℕ, ◌+◌, ◌<◌, ◌≤◌, List, [], ◌∷◌, length, Some, None, refl, add-zero, arith}
use Rattle.standing.specs.Choose.{choose}
use Rattle.standing.specs.Number.{wagons_from, sum_from, fault_from}

-- k wagons below section c, whose part of the number is x, and the bytes s from c on come to K wagons and the number X
pub record ComesTo (c k x : ℕ) (s : List ℕ) (K X : ℕ) : Type 0 where
  pub wagons : k + length (wagons_from c s) ≡ K
  pub number : x + sum_from (k + 1) (wagons_from c s) ≡ X

module _ {c k x K X : ℕ} {bs : List ℕ} where
  pub before_empty : ComesTo (c + 1) k x bs K X → ComesTo c k x (0 ∷ bs) K X
  unfolding wagons_from
  before_empty h = grind arith

  pub after_empty : ComesTo c k x (0 ∷ bs) K X → ComesTo (c + 1) k x bs K X
  unfolding wagons_from
  after_empty h = record { wagons = h.wagons; number = h.number }

  pub before_wagon : ComesTo (c + 1) (k + 1) (x + choose c (k + 1)) bs K X → ComesTo c k x (1 ∷ bs) K X
  unfolding wagons_from sum_from
  before_wagon h = record { wagons = omega (arith, h.wagons); number = omega (arith, h.number) }

  pub after_wagon : ComesTo c k x (1 ∷ bs) K X → ComesTo (c + 1) (k + 1) (x + choose c (k + 1)) bs K X
  unfolding wagons_from sum_from
  after_wagon h = grind arith

-- where no bytes are left
pub at_end : (c k x : ℕ) → ComesTo c k x [] k x
unfolding wagons_from sum_from
at_end c k x = record { wagons = add-zero k; number = add-zero x }

pub nothing_more : {c k x K X : ℕ} → ComesTo c k x [] K X → (k ≡ K) × (x ≡ X)
unfolding wagons_from sum_from
nothing_more h = grind arith

pub no_fault : (c : ℕ) → fault_from c [] ≡ None
unfolding fault_from
no_fault c = refl

module _ (c b : ℕ) (bs : List ℕ) where
  pub fault_here : 1 < b → fault_from c (b ∷ bs) ≡ Some c
  unfolding fault_from
  fault_here h = grind arith

  pub fault_later : b ≤ 1 → fault_from c (b ∷ bs) ≡ fault_from (c + 1) bs
  unfolding fault_from
  fault_later h = grind arith
