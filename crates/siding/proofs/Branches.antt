-- The branches of a section in rising order, as the links lead along them.
use Rattle.std.proofs.Common.{◌≡◌, ℕ, zero, suc, ◌+◌, ◌-◌, ◌<◌, ◌≤◌, Bool, true, false, eqb, ltb, List, [], ◌∷◌, length, get_or, sym, refl, ap, ◌∙◌, ⊎_elim, arith}
use Rattle.std.proofs.lemmas.Bool.{cases_eq, cases_lt, cond-true, cond-false, ltb-true, eqb-true, eq-eqb, ne_eqb, lt-ltb, and_parts, and_from}
use Rattle.std.specs.List.{range_with_len, filter}
use Rattle.motion.specs.Tree.{Branch, is_branch}
use Rattle.siding.specs.declared.track.Track.{Track}
use Rattle.siding.specs.Branches.{branches_past, branches_of, row_from}

pub branch_tested : (n : ℕ) (inner : List ℕ) (s c : ℕ) → c < n → is_branch inner s c ≡ true → Branch n inner s c
branch_tested n inner s c l h =
    let both = and_parts (ltb 0 c) (eqb (get_or inner c 0) s) h in
    record { outer = ltb-true 0 c both.0; within = l; hangs = eqb-true (get_or inner c 0) s both.1 }

pub branch_found : (n : ℕ) (inner : List ℕ) (s c : ℕ) → Branch n inner s c → is_branch inner s c ≡ true
branch_found n inner s c b = and_from (ltb 0 c) (eqb (get_or inner c 0) s) (lt-ltb 0 c b.outer) (eq-eqb (get_or inner c 0) s b.hangs)

no_branch_tested : (n : ℕ) (inner : List ℕ) (s c : ℕ) → c < n → (Branch n inner s c → ⊥) → is_branch inner s c ≡ false
no_branch_tested n inner s c l none = by_test (is_branch inner s c) refl
  where
    by_test : (b : Bool) → is_branch inner s c ≡ b → is_branch inner s c ≡ false
    by_test true e = absurd (none (branch_tested n inner s c l e))
    by_test false e = e

-- numbers that a filter drops at the start of a range
skipped : (q : ℕ → Bool) (len a b : ℕ) → a ≤ b → b ≤ a + len → ((i : ℕ) → a ≤ i → i < b → q i ≡ false) → filter q (range_with_len a len) ≡ filter q (range_with_len b (a + len - b))
skipped q zero a b h l none = let e : a + 0 - b ≡ 0 = omega arith in rw e refl
skipped q (suc len) a b h l none =
    ⊎_elim
    (λ (low : a < b).
    let e : a + 1 + len - b ≡ a + suc len - b = omega arith in
    cond-false (q a) _ _ (none a (omega arith) low)
    ∙ skipped q len (a + 1) b (omega arith) (omega arith) (λ i g s. none i (omega arith) s)
    ∙ ap (λ k. filter q (range_with_len b k)) e)
    (λ (g : b ≤ a).
    let at : a ≡ b = omega arith in
    let e : suc len ≡ a + suc len - b = omega arith in
    ap (λ k. filter q (range_with_len k (suc len))) at ∙ ap (λ k. filter q (range_with_len b k)) e)
    (cases_lt a b)

module _ (n : ℕ) (inner : List ℕ) (u : ℕ) where
  pub past_skipped : (a b : ℕ) → a ≤ b → b ≤ n → ((i : ℕ) → a ≤ i → i < b → Branch n inner u i → ⊥) → branches_past n inner u a ≡ branches_past n inner u b
  past_skipped a b h l none =
      let e : a + (n - a) - b ≡ n - b = omega arith in
      skipped (is_branch inner u) (n - a) a b h (omega arith) (λ i g s. no_branch_tested n inner u i (omega arith) (none i g s))
      ∙ ap (λ k. filter (is_branch inner u) (range_with_len b k)) e

  pub past_taken : (c : ℕ) → Branch n inner u c → branches_past n inner u c ≡ c ∷ branches_past n inner u (c + 1)
  past_taken c b =
      let l = b.within in
      let e : n - c ≡ suc (n - (c + 1)) = omega arith in
      ap (λ k. filter (is_branch inner u) (range_with_len c k)) e ∙ cond-true (is_branch inner u c) _ _ (branch_found n inner u c b)

  pub past_end : branches_past n inner u n ≡ []
  past_end = let e : n - n ≡ 0 = omega arith in ap (λ k. filter (is_branch inner u) (range_with_len n k)) e

module _ (t : Track) where
  -- from a branch of u that comes at `a` or later, or from none
  row_past : (u a c : ℕ) → a ≤ t.sections → (0 < c → (a ≤ c) × Branch t.sections t.inner u c) → ((k : ℕ) → a ≤ k → Branch t.sections t.inner u k → (0 < c) × (c ≤ k)) → row_from t c ≡ branches_past t.sections t.inner u a
  row_past u a c h is least =
      ⊎_elim
      (λ (e : c ≡ 0).
      cond-true (eqb c 0) _ _ (eq-eqb c 0 e)
      ∙ sym (past_skipped t.sections t.inner u a t.sections h (omega arith) (λ i g s b. let f = least i g b in absurd (omega (arith, f.0))) ∙ past_end t.sections t.inner u))
      (λ (ne : c ≡ 0 → ⊥).
      let at = is (omega arith) in
      cond-false (eqb c 0) _ _ (ne_eqb c 0 ne)
      ∙ ap (λ k. branches_past t.sections t.inner k c) at.1.hangs
      ∙ sym (past_skipped t.sections t.inner u a c at.0 (omega (arith, at.1.within)) (λ i g s b. let f = least i g b in absurd (omega (arith, f.1)))))
      (cases_eq c 0)

  pub row_first : (u : ℕ) → row_from t (get_or t.first u 0) ≡ branches_of t u
  row_first u =
      row_past u 0 (get_or t.first u 0) (omega arith)
      (λ p. let f = t.first_branch u p in (omega arith, record { outer = p; within = f.0; hangs = f.1 }))
      (λ k g b. t.first_lowest u k b)

  pub row_next : (b : ℕ) → 0 < b → b < t.sections → row_from t b ≡ b ∷ row_from t (get_or t.next b 0)
  row_next b p l =
      let u : ℕ = get_or t.inner b 0 in
      let rest =
      row_past u (b + 1) (get_or t.next b 0) (omega arith)
      (λ q. let f = t.next_branch b q in (omega (arith, f.1), record { outer = q; within = f.2; hangs = f.3 }))
      (λ k g other. t.next_lowest b k (record { outer = p; higher = omega arith; within = other.within; together = sym other.hangs })) in
      cond-false (eqb b 0) _ _ (ne_eqb b 0 (λ e. omega arith))
      ∙ past_taken t.sections t.inner u b (record { outer = p; within = l; hangs = refl })
      ∙ ap (λ xs. b ∷ xs) (sym rest)

  -- a section that is not there has no branches
  pub row_outside : (u : ℕ) → t.sections ≤ u → row_from t 0 ≡ branches_of t u
  row_outside u h =
      row_past u 0 0 (omega arith) (λ p. absurd (omega arith))
      (λ k g b. let low = t.lower k b.outer b.within in let at = b.hangs in absurd (omega arith))

  pub row_shorter : (b : ℕ) → 0 < b → b < t.sections → length (row_from t (get_or t.next b 0)) < length (row_from t b)
  row_shorter b p l = let e = ap length (row_next b p l) in omega arith
