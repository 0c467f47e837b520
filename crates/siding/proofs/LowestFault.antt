-- The lowest number that a test finds.
use Rattle.std.proofs.Common.{◌≡◌, ℕ, zero, suc, ◌<◌, ◌≤◌, Bool, true, false, cond, Some, None, Option, MatchOption, sym, refl, ap, ◌∙◌, ⊎_elim, arith}
use Rattle.std.proofs.lemmas.Bool.{cases_eq, cond-true, cond-false}
use Rattle.siding.specs.Sheet.{lowest, first_found}

-- nothing found so far: the next number decides
step : (f : ℕ → Bool) (k : ℕ) → lowest f k ≡ None → lowest f (suc k) ≡ cond (f k) (Some k) None
unfolding lowest
step f k none = ap (λ o. first_found o (cond (f k) (Some k) None)) none

-- what is found stays
lowest_found : (f : ℕ → Bool) (k n : ℕ) → lowest f k ≡ None → f k ≡ true → k < n → lowest f n ≡ Some k
unfolding lowest
lowest_found f k zero none finds l = let z : ⊥ = omega arith in absurd z
lowest_found f k (suc n) none finds l =
    ⊎_elim
    (λ (e : k ≡ n). ap (λ m. lowest f (suc m)) (sym e) ∙ step f k none ∙ cond-true (f k) (Some k) None finds)
    (λ (ne : k ≡ n → ⊥). ap (λ o. first_found o (cond (f n) (Some n) None)) (lowest_found f k n none finds (omega arith)))
    (cases_eq k n)

-- nothing found: the test fails on every number
both_none : (o p : Option ℕ) → first_found o p ≡ None → (o ≡ None) × (p ≡ None)
both_none (Some s) p e = (cc, cc)
both_none None p e = (refl, e)

fails_here : (b : Bool) (k : ℕ) → cond b (Some k) None ≡ None → b ≡ false
fails_here true k e = cc
fails_here false k e = refl

pub lowest_clean : (f : ℕ → Bool) (n : ℕ) → lowest f n ≡ None → (k : ℕ) → k < n → f k ≡ false
unfolding lowest
lowest_clean f zero none k l = let z : ⊥ = omega arith in absurd z
lowest_clean f (suc n) none k l =
    let both = both_none (lowest f n) (cond (f n) (Some n) None) none in
    ⊎_elim
    (λ (e : k ≡ n). ap f e ∙ fails_here (f n) n both.1)
    (λ (ne : k ≡ n → ⊥). lowest_clean f n both.0 k (omega arith))
    (cases_eq k n)

-- and the other way round
pub clean_lowest : (f : ℕ → Bool) (n : ℕ) → ((k : ℕ) → k < n → f k ≡ false) → lowest f n ≡ None
unfolding lowest
clean_lowest f zero clean = refl
clean_lowest f (suc n) clean =
    step f n (clean_lowest f n (λ k l. clean k (omega arith))) ∙ cond-false (f n) (Some n) None (clean n (omega arith))

-- a number that the test finds, and none lower, is the lowest
pub lowest_is : (f : ℕ → Bool) (n : ℕ) (r : Option ℕ) → MatchOption r ((k : ℕ) → 0 ≤ k → k < n → f k ≡ false) (λ s. (0 ≤ s) × (s < n) × (f s ≡ true) × ((k : ℕ) → 0 ≤ k → k < s → f k ≡ false)) → r ≡ lowest f n
lowest_is f n (Some s) h = sym (lowest_found f s n (clean_lowest f s (λ k l. h.3 k (omega arith) l)) h.2 h.1)
lowest_is f n None h = sym (clean_lowest f n (λ k l. h k (omega arith) l))
