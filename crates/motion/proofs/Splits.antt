-- The sum below a section is its own entry plus the sums below its branches.
use Rattle.std.proofs.Common.{◌≡◌, ℕ, zero, suc, ◌+◌, ◌<◌, ◌≤◌, Bool, true, false, cond, eqb, ◌≢◌, List, get_or, refl, arith}
use Rattle.std.proofs.lemmas.Bool.Decides.{nat_tests}
use Rattle.motion.specs.Tree.{Tree, is_below, is_branch, sum_to, under}
use Rattle.motion.proofs.Sums.{sum_same, sum_one, sum_zero, sum_add, sum_swap, sum_pick}
use Rattle.motion.proofs.Underneath.{below_self, below_neck, below_high, below_other}

module _ (n : ℕ) (inner : List ℕ) (tree : Tree n inner) where
  -- a branch has a higher number than the section that it hangs on
  pub branch_high : (s c : ℕ) → c < n → is_branch inner s c ≡ true → (s < c) × (0 < c) × (get_or inner c 0 ≡ s)
  branch_high s c l b = grind (arith, nat_tests, tree.lower c)

  -- what the section t adds below the branches of s: x, where it lies below the branch c
  below_branch : ℕ → ℕ → ℕ → ℕ → ℕ
  below_branch x s t c = cond (is_branch inner s c) (cond (is_below inner c t) x 0) 0

  -- nothing, where no branch has so low a number
  none_below : (x s t : ℕ) → t < n → ((c : ℕ) → s < c → 0 < c → t < c) → sum_to (below_branch x s t) n ≡ 0
  unfolding below_branch
  none_below x s t l high = grind (arith, sum_zero, below_high)

  -- one section t: it lies below s if it is s, or lies below just one branch of s
  abbrev Split : ℕ → ℕ → ℕ → Type 0
  Split x s t = cond (is_below inner s t) x 0 ≡ cond (eqb s t) x 0 + sum_to (below_branch x s t) n

  split_here : (x s t : ℕ) → t < n → s ≡ t → Split x s t
  split_here x s t l e = grind (arith, below_self, none_below)

  split_neck : (x s t : ℕ) → t < n → t ≡ 0 → s ≢ t → Split x s t
  split_neck x s t l z ne = grind (arith, below_neck, none_below)

  -- from the inner neighbour of t to t: only the branch t itself makes a difference
  split_farther : (x s t : ℕ) → t < n → 0 < t → s ≢ t → Split x s (get_or inner t 0) → Split x s t
  unfolding below_branch
  split_farther x s t l z ne ih = grind (arith, below_other n inner tree, below_high n inner tree t, below_self inner t, sum_one (below_branch x s (get_or inner t 0)) (below_branch x s t) n t)

  split_at : (x s k t : ℕ) → t < n → t ≤ k → Split x s t
  split_at x s zero t l p = grind (arith, split_here, split_neck)
  split_at x s (suc k) t l p = grind (arith, split_at x s k, split_here, split_farther)

  pub sum_below_splits : (xs : List ℕ) (s : ℕ) → s < n → under n inner xs s ≡ get_or xs s 0 + sum_to (λ c. cond (is_branch inner s c) (under n inner xs c) 0) n
  unfolding under below_branch
  sum_below_splits xs s l =
      let each : ℕ → ℕ → ℕ = λ t. below_branch (get_or xs t 0) s t in
      let parts : under n inner xs s ≡ sum_to (λ t. cond (eqb s t) (get_or xs t 0) 0) n + sum_to (λ t. sum_to (each t) n) n =
      sum_add (λ t. cond (eqb s t) (get_or xs t 0) 0) (λ t. sum_to (each t) n) (λ t. cond (is_below inner s t) (get_or xs t 0) 0) n
      (λ t k. split_at (get_or xs t 0) s t t k (omega arith)) in
      let own : sum_to (λ t. cond (eqb s t) (get_or xs t 0) 0) n ≡ get_or xs s 0 = sum_pick (λ t. get_or xs t 0) n s l in
      let swap : sum_to (λ t. sum_to (each t) n) n ≡ sum_to (λ c. sum_to (λ t. each t c) n) n = sum_swap each n n in
      let row : sum_to (λ c. sum_to (λ t. each t c) n) n ≡ sum_to (λ c. cond (is_branch inner s c) (under n inner xs c) 0) n =
      sum_same (λ c. sum_to (λ t. each t c) n) (λ c. cond (is_branch inner s c) (under n inner xs c) 0) n
      (λ c lc. inside (is_branch inner s c) (λ t. cond (is_below inner c t) (get_or xs t 0) 0)) in
      omega arith
    where
      inside : (b : Bool) (f : ℕ → ℕ) → sum_to (λ t. cond b (f t) 0) n ≡ cond b (sum_to f n) 0
      inside true f = refl
      inside false f = sum_zero (λ t. 0) n (λ t k. refl)
