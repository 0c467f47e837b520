-- A search along the branches of a section.
use Rattle.std.proofs.Common.{◌≡◌, ℕ, zero, suc, ◌+◌, ◌-◌, ◌<◌, ◌≤◌, Bool, true, false, cond, List, ◌∷◌, length, get_or, pos, IsTrue, ◌↔◌, Some, None, Option, MatchOption, MatchBool, sym, refl, ap, ◌∙◌, subst, ⊎_elim, arith}
use Rattle.std.proofs.lemmas.Bool.{cases_lt, cases_eq}
use Rattle.std.proofs.lemmas.List.Elements.{All-get_or, All-from_get_or, All-filter, filter_passes}
use Rattle.std.proofs.lemmas.List.FromFn.{length-range_with_len, get_or-range_with_len}
use Rattle.std.proofs.lemmas.List.Kept.{AllPairs-filter}
use Rattle.std.specs.List.{range_with_len, filter, AllPairs, HoldsAt, AllWithin}
use Rattle.motion.specs.Tree.{Branch, is_branch}
use Rattle.motion.specs.Demand.{demand_of}
use Rattle.motion.specs.Due.{Asks}
use Rattle.motion.specs.Visit.{Unsettled}
use Rattle.motion.specs.declared.ways.Way.{Way}
use Rattle.siding.specs.Steps.{Picked}
use Rattle.siding.specs.declared.siding.Siding.{Siding}
use Rattle.siding.specs.declared.track.Track.{Track}
use Rattle.siding.specs.Branches.{branches_of}
use Rattle.siding.proofs.Branches.{branch_tested, branch_found}

-- where a number stands in a list
pub record Place (xs : List ℕ) (c : ℕ) : Type 0 where
  pub at : ℕ
  pub within : at < length xs
  pub is : (d : ℕ) → get_or xs at d ≡ c

further : (x : ℕ) (xs : List ℕ) (c : ℕ) → Place xs c → Place (x ∷ xs) c
further x xs c p = record { at = suc p.at; within = omega (arith, p.within); is = p.is }

-- a number of a range that passes a test stands in the filtered range
place_kept : (q : ℕ → Bool) (len a c : ℕ) → a ≤ c → c < a + len → q c ≡ true → Place (filter q (range_with_len a len)) c
place_kept q zero a c h l p = absurd (omega arith)
place_kept q (suc len) a c h l p = go (λ ne. place_kept q len (a + 1) c (omega arith) (omega arith) p) (q a) refl
  where
    rest : List ℕ
    rest = filter q (range_with_len (a + 1) len)

    go : ((c ≡ a → ⊥) → Place rest c) → (b : Bool) → q a ≡ b → Place (cond b (a ∷ rest) rest) c
    go higher true e =
        ⊎_elim
        (λ (at : c ≡ a). record { at = 0; within = omega arith; is = λ d. sym at })
        (λ (ne : c ≡ a → ⊥). further a rest c (higher ne))
        (cases_eq c a)
    go higher false e =
        ⊎_elim
        (λ (at : c ≡ a). let z : ◌≡◌ {A = Bool} true false = sym p ∙ ap q at ∙ e in absurd (cc))
        (λ (ne : c ≡ a → ⊥). higher ne)
        (cases_eq c a)

module _ (t : Track) (u : ℕ) where
  -- what stands in the row is a branch
  pub row_branch : (i d : ℕ) → i < length (branches_of t u) → Branch t.sections t.inner u (get_or (branches_of t u) i d)
  row_branch i d l =
      let q : ℕ → Bool = is_branch t.inner u in
      let numbers : List ℕ = range_with_len 0 (t.sections - 0) in
      let long = length-range_with_len 0 (t.sections - 0) in
      let within : get_or (branches_of t u) i d < t.sections =
      All-get_or (λ x. x < t.sections) (branches_of t u) i d l
      (All-filter q (λ x. x < t.sections) numbers (All-from_get_or (λ x. x < t.sections) numbers 0 (λ k m. let e = get_or-range_with_len 0 (t.sections - 0) k 0 (omega arith) in omega arith))) in
      branch_tested t.sections t.inner u _ within (All-get_or (λ x. q x ≡ true) (branches_of t u) i d l (filter_passes q numbers))

  -- and every branch stands in it
  pub branch_place : (c : ℕ) → Branch t.sections t.inner u c → Place (branches_of t u) c
  branch_place c b = let l = b.within in place_kept (is_branch t.inner u) (t.sections - 0) 0 c (omega arith) (omega arith) (branch_found t.sections t.inner u c b)

  -- in rising order
  pub row_rises : AllPairs (λ x y. x < y) (branches_of t u)
  row_rises =
      let numbers : List ℕ = range_with_len 0 (t.sections - 0) in
      let long = length-range_with_len 0 (t.sections - 0) in
      AllPairs-filter (λ x y. x < y) (is_branch t.inner u) numbers
      (λ i j d l m. let a = get_or-range_with_len 0 (t.sections - 0) i d (omega arith) in let b = get_or-range_with_len 0 (t.sections - 0) j d (omega arith) in omega arith)

  module _ (No : ℕ → Type 0) where
    -- what `find` answers: the first branch that is as wanted, and so the lowest
    pub found_branch : (v : ℕ) → (i : ℕ) × (i < length (branches_of t u)) × HoldsAt (λ y. y ≡ v) (branches_of t u) i × AllWithin No (branches_of t u) 0 i
        → Branch t.sections t.inner u v × ((k : ℕ) → k < v → Branch t.sections t.inner u k → No k)
    found_branch v (i, l, is, before) = (
      subst (Branch t.sections t.inner u) (is 0) (row_branch i 0 l),
      λ k low b.
          let p = branch_place k b in
          let here = p.is 0 in
          let there = is 0 in
          ⊎_elim
          (λ (h : p.at < i). subst No here (before p.at 0 (omega arith) h))
          (λ (h : i ≤ p.at).
          ⊎_elim
          (λ (e : p.at ≡ i). let same = ap (λ j. get_or (branches_of t u) j 0) e in absurd (omega arith))
          (λ (ne : p.at ≡ i → ⊥). let up = row_rises i p.at 0 (omega arith) p.within in absurd (omega arith))
          (cases_eq p.at i))
          (cases_lt p.at i),
    )

    -- where no entry is as wanted, no branch is
    pub none_wanted : AllWithin No (branches_of t u) 0 (length (branches_of t u)) → (k : ℕ) → Branch t.sections t.inner u k → No k
    none_wanted all k b = let p = branch_place k b in subst No (p.is 0) (all p.at 0 (omega arith) p.within)

-- what the search for a branch that asks answers
pub picked :
    (x : Siding) (way : Way) (u : ℕ) (r : Option ℕ)
    → MatchOption r (AllWithin (λ k. Asks way x.track.sections x.track.inner x.wagons.in_section x.berths.in_section k → ⊥) (branches_of x.track u) 0 (length (branches_of x.track u)))
    (λ v. Asks way x.track.sections x.track.inner x.wagons.in_section x.berths.in_section v × (i : ℕ) × (i < length (branches_of x.track u)) × HoldsAt (λ y. y ≡ v) (branches_of x.track u) i
    × AllWithin (λ k. Asks way x.track.sections x.track.inner x.wagons.in_section x.berths.in_section k → ⊥) (branches_of x.track u) 0 i)
    → Picked x way u r
picked x way u (Some v) (asks, i, l, is, before) =
    let found = found_branch x.track u (λ k. Asks way x.track.sections x.track.inner x.wagons.in_section x.berths.in_section k → ⊥) v (i, l, is, before) in
    record { branch = found.0; asks = asks; lowest = found.1 }
picked x way u None all = none_wanted x.track u (λ k. Asks way x.track.sections x.track.inner x.wagons.in_section x.berths.in_section k → ⊥) all

-- and what the search for one with a demand
pub unsettled_any :
    (x : Siding) (u : ℕ) (r : Bool)
    → MatchBool r ((k : ℕ) × (k < length (branches_of x.track u)) × HoldsAt (λ c. demand_of x.track.sections x.track.inner x.wagons.in_section x.berths.in_section c ≡ pos 0 → ⊥) (branches_of x.track u) k)
    (AllWithin (λ c. demand_of x.track.sections x.track.inner x.wagons.in_section x.berths.in_section c ≡ pos 0) (branches_of x.track u) 0 (length (branches_of x.track u)))
    → IsTrue r ↔ Unsettled x.track.sections x.track.inner x.wagons.in_section x.berths.in_section u
unsettled_any x u true (k, l, wants) = (
  λ _. record { at = get_or (branches_of x.track u) k 0; branch = row_branch x.track u k 0 l; wants = wants 0 },
  λ _. refl,
)
unsettled_any x u false all = (
  λ e. let z : ◌≡◌ {A = Bool} false true = e in absurd (cc),
  λ un. absurd (un.wants (none_wanted x.track u (λ c. demand_of x.track.sections x.track.inner x.wagons.in_section x.berths.in_section c ≡ pos 0) all un.at un.branch)),
)
