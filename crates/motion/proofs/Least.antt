-- The lowest number of which something holds.
use Rattle.std.proofs.Common.{ℕ, zero, suc, ◌<◌, ◌⊎◌, inr, arith}

-- k is the lowest number of which P holds, and lower than n
pub record Least (P : ℕ → Type 0) (n k : ℕ) : Type 0 where
  pub within : k < n
  pub holds : P k
  pub lowest : (j : ℕ) → j < k → P j → ⊥

-- there is one, or P holds of no number below n
pub least : (P : ℕ → Type 0) → ((k : ℕ) → P k ⊎ (P k → ⊥)) → (n : ℕ) → ((k : ℕ) × Least P n k) ⊎ ((k : ℕ) → k < n → P k → ⊥)
least P each zero = inr (λ k l p. omega arith)
least P each (suc n) = grind (arith, least P each n, each n)
