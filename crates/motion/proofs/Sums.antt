-- Sums over the numbers below n.
use Rattle.std.proofs.Common.{◌≡◌, ℕ, zero, suc, ◌+◌, ◌*◌, ◌<◌, ◌≤◌, cond, eqb, ◌≢◌, sym, refl, add-one, arith}
use Rattle.motion.specs.Tree.{sum_to}

pub sum_none : (f : ℕ → ℕ) → sum_to f 0 ≡ 0
unfolding sum_to
sum_none f = refl

pub sum_more : (f : ℕ → ℕ) (n : ℕ) → sum_to f (n + 1) ≡ sum_to f n + f n
unfolding sum_to
sum_more f n = rw add-one

pub sum_same : (f g : ℕ → ℕ) (n : ℕ) → ((t : ℕ) → t < n → f t ≡ g t) → sum_to f n ≡ sum_to g n
unfolding sum_to
sum_same f g zero h = refl
sum_same f g (suc n) h = grind (arith, sum_same f g n)

-- f and g agree but at i
pub sum_one : (f g : ℕ → ℕ) (n i : ℕ) → i < n → ((t : ℕ) → t < n → t ≢ i → f t ≡ g t) → sum_to g n + f i ≡ sum_to f n + g i
unfolding sum_to
sum_one f g zero i l h = omega arith
sum_one f g (suc n) i l h = grind (arith, sum_one f g n i, sum_same f g n)

pub sum_zero : (f : ℕ → ℕ) (n : ℕ) → ((t : ℕ) → t < n → f t ≡ 0) → sum_to f n ≡ 0
unfolding sum_to
sum_zero f zero h = refl
sum_zero f (suc n) h = grind (arith, sum_zero f n)

pub sum_below : (f g : ℕ → ℕ) (n : ℕ) → ((t : ℕ) → t < n → f t ≤ g t) → sum_to f n ≤ sum_to g n
unfolding sum_to
sum_below f g zero h = omega arith
sum_below f g (suc n) h = grind (arith, sum_below f g n)

pub sum_most : (f : ℕ → ℕ) (m n : ℕ) → ((t : ℕ) → t < n → f t ≤ m) → sum_to f n ≤ n * m
unfolding sum_to
sum_most f m zero h = omega arith
sum_most f m (suc n) h = grind (arith, sum_most f m n)

pub sum_add : (f g h : ℕ → ℕ) (n : ℕ) → ((t : ℕ) → t < n → h t ≡ f t + g t) → sum_to h n ≡ sum_to f n + sum_to g n
unfolding sum_to
sum_add f g h zero e = omega arith
sum_add f g h (suc n) e = grind (arith, sum_add f g h n)

-- a sum of sums, in the other order
pub sum_swap : (f : ℕ → ℕ → ℕ) (m n : ℕ) → sum_to (λ t. sum_to (f t) m) n ≡ sum_to (λ c. sum_to (λ t. f t c) n) m
unfolding sum_to
sum_swap f m zero = sym (sum_zero (λ c. 0) m (λ t l. refl))
sum_swap f m (suc n) = grind (arith, sum_add, sum_swap f m n)

-- the sum of what is f at u, and 0 elsewhere
pub sum_pick : (f : ℕ → ℕ) (n u : ℕ) → u < n → sum_to (λ t. cond (eqb u t) (f t) 0) n ≡ f u
sum_pick f n u l = grind (arith, sum_zero, sum_one (λ t. 0) (λ t. cond (eqb u t) (f t) 0) n u l)

-- a part is at most the whole
pub sum_part : (f : ℕ → ℕ) (n i : ℕ) → i < n → f i ≤ sum_to f n
unfolding sum_to
sum_part f zero i l = let z : ⊥ = omega arith in absurd z
sum_part f (suc n) i l = grind (arith, sum_part f n i)
