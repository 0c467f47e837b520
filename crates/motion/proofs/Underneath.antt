-- Which sections lie below which.
use Rattle.std.proofs.Common.{◌≡◌, ℕ, zero, suc, ◌<◌, ◌≤◌, true, false, cond, eqb, ◌≢◌, List, get_or, refl, arith}
use Rattle.motion.specs.Tree.{Tree, Below, met_within, is_below}

pub below_self : (inner : List ℕ) (u : ℕ) → is_below inner u u ≡ true
unfolding is_below met_within
below_self inner zero = refl
below_self inner (suc u) = grind arith

-- the neck lies below itself alone
pub below_neck : (inner : List ℕ) (s : ℕ) → is_below inner s 0 ≡ eqb s 0
unfolding is_below met_within
below_neck inner s = refl

module _ (n : ℕ) (inner : List ℕ) (tree : Tree n inner) where
  at_neck : (s k : ℕ) → met_within k inner s 0 ≡ eqb s 0
  unfolding met_within
  at_neck s zero = refl
  at_neck s (suc k) = grind (arith, at_neck s k)

  -- any two numbers of moves that are enough give one answer
  enough : (s k m t : ℕ) → t < n → t ≤ k → t ≤ m → met_within k inner s t ≡ met_within m inner s t
  unfolding met_within
  enough s zero m t l p q = grind (arith, at_neck)
  enough s (suc k) zero t l p q = grind (arith, at_neck)
  enough s (suc k) (suc m) t l p q = grind (arith, enough s k m)

  -- t lies below s if it is s, or its inner neighbour lies below s
  pub below_inner : (s t : ℕ) → 0 < t → t < n → is_below inner s t ≡ cond (eqb s t) true (is_below inner s (get_or inner t 0))
  unfolding is_below met_within
  below_inner s zero p l = grind arith
  below_inner s (suc t) p l = grind (arith, enough)

  met_high : (s k t : ℕ) → t < n → t < s → met_within k inner s t ≡ false
  unfolding met_within
  met_high s zero t l h = grind arith
  met_high s (suc k) t l h = grind (arith, met_high s k)

  -- nothing with a lower number lies below s
  pub below_high : (s t : ℕ) → t < n → t < s → is_below inner s t ≡ false
  unfolding is_below
  below_high s t l h = met_high s t t l h

  -- of another section than itself: as of its inner neighbour
  pub below_other : (s t : ℕ) → 0 < t → t < n → s ≢ t → is_below inner s t ≡ is_below inner s (get_or inner t 0)
  below_other s t z l ne = grind (arith, below_inner s t)

  -- the test finds what lies below
  pub below_found : {s t : ℕ} → t < n → Below inner s t → is_below inner s t ≡ true
  below_found {s} l Below.itself = below_self inner s
  below_found {s} {t} l (Below.farther z r) = grind (arith, below_inner, below_found (omega arith) r)

  met_is_below : (s k t : ℕ) → t < n → t ≤ k → met_within k inner s t ≡ true → Below inner s t
  unfolding met_within
  met_is_below s zero t l p h = grind (arith, Below.itself)
  met_is_below s (suc k) t l p h = grind (arith, Below.farther, Below.itself, met_is_below s k (get_or inner t 0))

  -- and nothing else
  pub below_is : (s t : ℕ) → t < n → is_below inner s t ≡ true → Below inner s t
  unfolding is_below
  below_is s t l h = met_is_below s t t l (omega arith) h
