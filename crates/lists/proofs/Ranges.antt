-- The first number of a range that passes one test and then another.
use Rattle.std.proofs.Common.{◌≡◌, ℕ, zero, suc, ◌+◌, ◌-◌, ◌<◌, ◌≤◌, Bool, true, false, cond, List, [], ◌∷◌, length, sym, refl, ap, ◌∙◌, subst, ⊎_elim, arith}
use Rattle.std.specs.List.{range_with_len, filter, AllWithin, HoldsAt}
use Rattle.std.proofs.lemmas.Bool.{cases_eq}

-- k is a number of the range that passes q
pub record Passes (q : ℕ → Bool) (a len k : ℕ) : Type 0 where
  pub from : a ≤ k
  pub within : k < a + len
  pub passes : q k ≡ true

-- x is the first that is not one of No
pub record IsFound (q : ℕ → Bool) (No : ℕ → Type 0) (a len x : ℕ) : Type 0 where
  pub is : Passes q a len x
  pub lower : (k : ℕ) → Passes q a len k → k < x → No k

module _ (q : ℕ → Bool) (No : ℕ → Type 0) where
  past : (a len k : ℕ) → (k ≡ a → ⊥) → Passes q a (suc len) k → Passes q (a + 1) len k
  past a len k ne p = record { from = omega (arith, p.from); within = omega (arith, p.within); passes = p.passes }

  further : (a len x : ℕ) → IsFound q No (a + 1) len x → (q a ≡ true → No a) → IsFound q No a (suc len) x
  further a len x f none = record {
    is = record { from = omega (arith, f.is.from); within = omega (arith, f.is.within); passes = f.is.passes };
    lower = λ k p s.
        ⊎_elim
        (λ (is : k ≡ a). subst No (sym is) (none (subst (λ j. q j ≡ true) is p.passes)))
        (λ (ne : k ≡ a → ⊥). f.lower k (past a len k ne p) s)
        (cases_eq k a);
  }

  -- where all that pass are of No
  none_next : (a len : ℕ) (rest : List ℕ) → (AllWithin No rest 0 (length rest) → (k : ℕ) → Passes q (a + 1) len k → No k) → (b : Bool) → q a ≡ b
      → AllWithin No (cond b (a ∷ rest) rest) 0 (length (cond b (a ∷ rest) rest)) → (k : ℕ) → Passes q a (suc len) k → No k
  none_next a len rest next true e h k p =
      ⊎_elim
      (λ (is : k ≡ a). subst No (sym is) (h 0 a (omega arith) (omega arith)))
      (λ (ne : k ≡ a → ⊥). next (λ j d g s. h (suc j) d (omega arith) (omega arith)) k (past a len k ne p))
      (cases_eq k a)
  none_next a len rest next false e h k p =
      ⊎_elim
      (λ (is : k ≡ a). let no : false ≡ true = sym e ∙ subst (λ j. q j ≡ true) is p.passes in cc)
      (λ (ne : k ≡ a → ⊥). next h k (past a len k ne p))
      (cases_eq k a)

  pub none_found : (a len : ℕ) → AllWithin No (filter q (range_with_len a len)) 0 (length (filter q (range_with_len a len))) → (k : ℕ) → Passes q a len k → No k
  none_found a zero all k p = absurd (omega (arith, p.from, p.within))
  none_found a (suc len) all k p = none_next a len (filter q (range_with_len (a + 1) len)) (none_found (a + 1) len) (q a) refl all k p

  -- where the one at i is x, and those before it are of No
  first_next : (a len x : ℕ) (rest : List ℕ) → ((i : ℕ) → i < length rest → HoldsAt (λ y. y ≡ x) rest i → AllWithin No rest 0 i → IsFound q No (a + 1) len x) → (b : Bool) → q a ≡ b
      → (i : ℕ) → i < length (cond b (a ∷ rest) rest) → HoldsAt (λ y. y ≡ x) (cond b (a ∷ rest) rest) i → AllWithin No (cond b (a ∷ rest) rest) 0 i → IsFound q No a (suc len) x
  first_next a len x rest next true e zero l at before =
      let is : a ≡ x = at a in
      record {
        is = record { from = omega arith; within = omega arith; passes = subst (λ j. q j ≡ true) is e };
        lower = λ k p s. absurd (omega (arith, p.from));
      }
  first_next a len x rest next true e (suc j) l at before =
      further a len x (next j (omega arith) (λ d. at d) (λ k d g s. before (suc k) d (omega arith) (omega arith))) (λ _. before 0 a (omega arith) (omega arith))
  first_next a len x rest next false e j l at before = further a len x (next j l at before) (λ t. let no : false ≡ true = sym e ∙ t in cc)

  pub first_found : (a len x i : ℕ) → i < length (filter q (range_with_len a len)) → HoldsAt (λ y. y ≡ x) (filter q (range_with_len a len)) i
      → AllWithin No (filter q (range_with_len a len)) 0 i → IsFound q No a len x
  first_found a zero x i l at before = absurd (omega arith)
  first_found a (suc len) x i l at before = first_next a len x (filter q (range_with_len (a + 1) len)) (first_found (a + 1) len x) (q a) refl i l at before

-- the numbers of a range that pass, one after another
module _ (q : ℕ → Bool) where
  pub none_left : (a len : ℕ) → filter q (range_with_len a len) ≡ [] → (k : ℕ) → Passes q a len k → ⊥
  none_left a len e = none_found q (λ _. ⊥) a len (subst (λ xs. AllWithin (λ _. ⊥) xs 0 (length xs)) (sym e) (λ k d g l. absurd (omega arith)))

  pub first_left : (a len b : ℕ) (rest : List ℕ) → filter q (range_with_len a len) ≡ b ∷ rest → IsFound q (λ _. ⊥) a len b
  first_left a len b rest e =
      first_found q (λ _. ⊥) a len b 0 (omega (arith, ap length e)) (subst (λ xs. HoldsAt (λ y. y ≡ b) xs 0) (sym e) (λ d. refl)) (λ k d g l. absurd (omega arith))

  rest_next : (a len b : ℕ) (rest more : List ℕ) → (more ≡ b ∷ rest → rest ≡ filter q (range_with_len (b + 1) (a + 1 + len - (b + 1)))) → (t : Bool) → more ≡ filter q (range_with_len (a + 1) len)
      → cond t (a ∷ more) more ≡ b ∷ rest → rest ≡ filter q (range_with_len (b + 1) (a + suc len - (b + 1)))
  rest_next a len b rest more next true is e =
      let same : a ≡ b = cc in
      let tail : more ≡ rest = cc in
      let left : len ≡ a + suc len - (b + 1) = omega arith in
      sym tail ∙ is ∙ ap (λ k. filter q (range_with_len (k + 1) len)) same ∙ ap (λ k. filter q (range_with_len (b + 1) k)) left
  rest_next a len b rest more next false is e =
      let left : a + 1 + len - (b + 1) ≡ a + suc len - (b + 1) = omega arith in
      next e ∙ ap (λ k. filter q (range_with_len (b + 1) k)) left

  pub rest_left : (a len b : ℕ) (rest : List ℕ) → filter q (range_with_len a len) ≡ b ∷ rest → rest ≡ filter q (range_with_len (b + 1) (a + len - (b + 1)))
  rest_left a zero b rest e = let z : ◌≡◌ {A = List ℕ} [] (b ∷ rest) = e in cc
  rest_left a (suc len) b rest e = rest_next a len b rest (filter q (range_with_len (a + 1) len)) (rest_left (a + 1) len b rest) (q a) refl e
