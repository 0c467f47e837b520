-- What a search along a row of branches finds.
use Rattle.std.proofs.Common.{◌≡◌, ℕ, ◌-◌, ◌<◌, ◌≤◌, Bool, true, false, cond, eqb, ltb, List, [], length, get_or, Some, None, Option, sym, ap, ◌∙◌, subst, ⊎_elim, arith}
use Rattle.std.specs.List.{range_with_len, All, AllWithin, HoldsAt}
use Rattle.std.specs.Option.{MatchOption}
use Rattle.std.proofs.lemmas.List.FromFn.{length-range_with_len, get_or-range_with_len}
use Rattle.std.proofs.lemmas.List.Elements.{All-filter}
use Rattle.std.proofs.lemmas.Bool.{cases_lt, cond-true, cond-false, ltb-true, eqb-true, eq-eqb, ne_eqb, lt-ltb, and_parts, and_from}
use Rattle.motion.specs.Tree.{Branch, is_branch}
use Rattle.siding.specs.declared.track.Track.{Track}
use Rattle.siding.specs.Branches.{branches_past, row_from}
use Rattle.lists.proofs.Ranges.{Passes, none_found, first_found}

-- every branch in a row has a slot
past_small : (n : ℕ) (inner : List ℕ) (u from : ℕ) → n ≤ 512 → All (λ k. k < 512) (branches_past n inner u from)
past_small n inner u from most =
    All-filter (is_branch inner u) (λ k. k < 512) (range_with_len from (n - from))
    (λ k d l.
    let m : k < n - from = omega (arith, length-range_with_len from (n - from)) in
    omega (arith, get_or-range_with_len from (n - from) k d m))

pub row_small : (t : Track) (c k x : ℕ) → k < length (row_from t c) → x ≡ get_or (row_from t c) k x → x < 512
row_small t c k x l at = subst (λ y. y < 512) (sym at) (by_test (eqb c 0) k x l)
  where
    by_test : (b : Bool) → All (λ y. y < 512) (cond b [] (branches_past t.sections t.inner (get_or t.inner c 0) c))
    by_test true k d l = absurd (omega arith)
    by_test false k d l = past_small t.sections t.inner (get_or t.inner c 0) c t.most k d l

pub tested : (n : ℕ) (inner : List ℕ) (u k : ℕ) → k < n → is_branch inner u k ≡ true → Branch n inner u k
tested n inner u k l h =
    let both = and_parts (ltb 0 k) (eqb (get_or inner k 0) u) h in
    record { outer = ltb-true 0 k both.0; within = l; hangs = eqb-true (get_or inner k 0) u both.1 }

pub passing : (n : ℕ) (inner : List ℕ) (u k : ℕ) → Branch n inner u k → is_branch inner u k ≡ true
passing n inner u k b = and_from (ltb 0 k) (eqb (get_or inner k 0) u) (lt-ltb 0 k b.outer) (eq-eqb (get_or inner k 0) u b.hangs)

pub passes : (n : ℕ) (inner : List ℕ) (u from k : ℕ) → Branch n inner u k → from ≤ k → Passes (is_branch inner u) from (n - from) k
passes n inner u from k b ahead = record { from = ahead; within = omega (arith, b.within); passes = passing n inner u k b }

-- the lowest branch of u with Yes, if there is one
abbrev pub LowestYes : ℕ → List ℕ → (ℕ → Type 0) → ℕ → Option ℕ → Type 0
LowestYes n inner Yes u (Some v) = Branch n inner u v × Yes v × ((k : ℕ) → k < v → Branch n inner u k → Yes k → ⊥)
LowestYes n inner Yes u None = (k : ℕ) → Branch n inner u k → Yes k → ⊥

-- what `find` answers along a row, item by item
abbrev pub FoundIn : (ℕ → Type 0) → List ℕ → Option ℕ → Type 0
FoundIn Yes xs r = MatchOption r (AllWithin (λ k. Yes k → ⊥) xs 0 (length xs)) (λ v. Yes v × (i : ℕ) × (i < length xs) × HoldsAt (λ y. y ≡ v) xs i × AllWithin (λ k. Yes k → ⊥) xs 0 i)

-- c is a branch of u, or past the last, and none of the branches before it has Yes: then the search goes on from there
module _ (t : Track) (Yes : ℕ → Type 0) (u c : ℕ) (stands : 0 < c → (c < t.sections) × (get_or t.inner c 0 ≡ u))
    (passed : (k : ℕ) → Branch t.sections t.inner u k → (0 < c → k < c) → Yes k → ⊥) where
  is_row : 0 < c → row_from t c ≡ branches_past t.sections t.inner u c
  is_row some = cond-false (eqb c 0) _ _ (ne_eqb c 0 (λ e. omega arith)) ∙ ap (λ v. branches_past t.sections t.inner v c) (stands some).1

  no_row : c ≡ 0 → row_from t c ≡ []
  no_row e = cond-true (eqb c 0) _ _ (eq-eqb c 0 e)

  pub sought : (r : Option ℕ) → FoundIn Yes (row_from t c) r → LowestYes t.sections t.inner Yes u r
  sought None all = λ k b has.
      ⊎_elim
      (λ (some : 0 < c).
      ⊎_elim
      (λ (low : k < c). passed k b (λ _. low) has)
      (λ (high : c ≤ k). none_found (is_branch t.inner u) (λ j. Yes j → ⊥) c (t.sections - c) (subst (λ xs. AllWithin (λ j. Yes j → ⊥) xs 0 (length xs)) (is_row some) all) k (passes t.sections t.inner u c k b high) has)
      (cases_lt k c))
      (λ (none : c ≤ 0). passed k b (λ p. absurd (omega arith)) has)
      (cases_lt 0 c)
  sought (Some v) (has, i, l, at, before) =
      ⊎_elim
      (λ (some : 0 < c).
      let found = first_found (is_branch t.inner u) (λ j. Yes j → ⊥) c (t.sections - c) v i (subst (λ xs. i < length xs) (is_row some) l) (subst (λ xs. HoldsAt (λ y. y ≡ v) xs i) (is_row some) at)
      (subst (λ xs. AllWithin (λ j. Yes j → ⊥) xs 0 i) (is_row some) before) in (
        tested t.sections t.inner u v (omega (arith, found.is.within, (stands some).0)) found.is.passes,
        has,
        λ k lower b y.
            ⊎_elim
            (λ (low : k < c). passed k b (λ _. low) y)
            (λ (high : c ≤ k). found.lower k (passes t.sections t.inner u c k b high) lower y)
            (cases_lt k c),
      ))
      (λ (none : c ≤ 0). let e : c ≡ 0 = omega arith in let z : i < 0 = subst (λ xs. i < length xs) (no_row e) l in absurd (omega arith))
      (cases_lt 0 c)
