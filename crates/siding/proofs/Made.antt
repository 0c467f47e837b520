-- An array that is made slot by slot by a closure which stays as it is.
use Rattle.std.proofs.Common.{◌≡◌, ℕ, zero, suc, ◌+◌, ◌<◌, ◌≤◌, List, get_or, sym, subst, ⊎_elim, arith}
use Rattle.std.proofs.lemmas.Bool.{cases_eq}
use Rattle.std.specs.Array.{IsFromFnResult, IsFromFnResultFrom}
use denote.Param.Members.{Mut, Called}

module _ {F B : Type 0} (g : Mut F (ℕ × Unit {0}) B) (f : F) (P : ℕ → B → Type 0) (gives : (i : ℕ) (r : B) (q : F) → Called g f (i, tt) r q → (q ≡ f) × P i r) where
  made_from : (ys : List B) (n a : ℕ) → IsFromFnResultFrom g f ys a n → (i : ℕ) → a ≤ i → i < a + n → (d : B) → P i (get_or ys i d)
  made_from ys zero a h i l m d = absurd (omega arith)
  made_from ys (suc n) a h i l m d =
      let one = gives a h.1 h.0 h.3 in
      ⊎_elim
      (λ (e : i ≡ a). subst (λ k. P k (get_or ys k d)) (sym e) (subst (P a) (sym (h.2.1 d)) one.1))
      (λ (ne : i ≡ a → ⊥). made_from ys n (a + 1) (subst (λ k. IsFromFnResultFrom g k ys (a + 1) n) one.0 h.4) i (omega arith) (omega arith) d)
      (cases_eq i a)

  -- each slot has what the closure gives for it
  pub made_each : (ys : List B) (n : ℕ) → IsFromFnResult g f ys n → (i : ℕ) → i < n → (d : B) → P i (get_or ys i d)
  made_each ys n h i l d = made_from ys n 0 h.each i (omega arith) (omega arith) d
