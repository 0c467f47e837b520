-- The outcome of a call is what the call does, and a refusal is given only where there is nothing that it could do.
use Rattle.std.proofs.Common.{◌≡◌, ℕ, ◌<◌, Bool, true, false, cond, eqb, ltb, List, get_or, Some, None, Ok, Err, Option, Result, sym, refl, ap, ◌∙◌, inl, inr, ⊎_elim, arith}
use Rattle.std.proofs.lemmas.Bool.{cond-true, cond-false, ltb-true, eqb-true, eqb-false, or_cases, lt-ltb, eq-eqb, ne_eqb}
use Rattle.refusal.specs.declared.Refusal.{Refusal}
use Rattle.refusal.specs.declared.Refusal.TheVariants.{NoSection, AlreadyThere, NotThere, NotNeighbours, PageFull}
use Rattle.motion.specs.Tree.{is_branch}
use Rattle.motion.specs.Moves.{Neighbours, Legal}
use Rattle.motion.specs.State.{State, most_moves}
use Rattle.motion.specs.Calls.{Does, Done, Makes, hand_moved}
use Rattle.motion.proofs.DueMoves.{none_due}
use Rattle.motion.specs.declared.moves.Move.{Move}
use Rattle.motion.specs.declared.calls.Act.TheVariants.{Call as Called, Step}
use Rattle.motion.specs.declared.calls.Call.{Call}
use Rattle.motion.specs.declared.calls.Call.TheVariants.{Put, Take, Mark, Unmark, Hand, Turn}
use Rattle.siding.specs.declared.siding.Siding.{Siding}
use Rattle.siding.specs.Outcome.{outcome, on_section, into_empty, from_full, are_neighbours, legality, if_legal, on_page, CarriedOut}
use Rattle.siding.specs.Stands.{state_of}
use Rattle.siding.specs.Steps.{Stepped}
use Rattle.siding.proofs.Branches.{branch_tested}
use Rattle.siding.proofs.Handed.{legal_outcome, same_ok}

-- a test stands before the rest: with an outcome it was passed, and the rest has that outcome
passed : {A : Type 0} (b : Bool) (rest : Result A Refusal) (e : Refusal) (y : A) → cond b rest (Err e) ≡ Ok y → (b ≡ true) × (rest ≡ Ok y)
passed true rest e y h = (refl, h)
passed false rest e y h = let z : ◌≡◌ {A = ℕ} 0 1 = cc in absurd (omega arith)

not_failed : {A : Type 0} (b : Bool) (rest : Result A Refusal) (e : Refusal) (y : A) → cond b (Err e) rest ≡ Ok y → (b ≡ false) × (rest ≡ Ok y)
not_failed true rest e y h = let z : ◌≡◌ {A = ℕ} 0 1 = cc in absurd (omega arith)
not_failed false rest e y h = (refl, h)

positive : (k : ℕ) → eqb k 0 ≡ false → 0 < k
positive k h = let ne = eqb-false k 0 h in omega arith

-- on a section: one more where there is none, one less where there is some
module _ (x : State) (xs : List ℕ) (s : ℕ) (a y : State) where
  more_passed : on_section x s (into_empty xs s (Ok a)) ≡ Ok y → (s < x.sections) × (get_or xs s 0 ≡ 0) × (y ≡ a)
  more_passed h =
      let p = passed (ltb s x.sections) (into_empty xs s (Ok a)) (NoSection s) y h in
      let q = passed (eqb (get_or xs s 0) 0) (Ok a) (AlreadyThere 0) y p.1 in
      (ltb-true s x.sections p.0, eqb-true (get_or xs s 0) 0 q.0, same_ok a y q.1)

  more_done : (s < x.sections) × (get_or xs s 0 ≡ 0) × (y ≡ a) → on_section x s (into_empty xs s (Ok a)) ≡ Ok y
  more_done d =
      cond-true (ltb s x.sections) _ _ (lt-ltb s x.sections d.0)
      ∙ cond-true (eqb (get_or xs s 0) 0) _ _ (eq-eqb (get_or xs s 0) 0 d.1) ∙ ap Ok (sym d.2)

  less_passed : on_section x s (from_full xs s (Ok a)) ≡ Ok y → (s < x.sections) × (0 < get_or xs s 0) × (y ≡ a)
  less_passed h =
      let p = passed (ltb s x.sections) (from_full xs s (Ok a)) (NoSection s) y h in
      let q = not_failed (eqb (get_or xs s 0) 0) (Ok a) (NotThere 0) y p.1 in
      (ltb-true s x.sections p.0, positive (get_or xs s 0) q.0, same_ok a y q.1)

  less_done : (s < x.sections) × (0 < get_or xs s 0) × (y ≡ a) → on_section x s (from_full xs s (Ok a)) ≡ Ok y
  less_done d =
      cond-true (ltb s x.sections) _ _ (lt-ltb s x.sections d.0)
      ∙ cond-false (eqb (get_or xs s 0) 0) _ _ (ne_eqb (get_or xs s 0) 0 (λ e. omega (arith, d.1))) ∙ ap Ok (sym d.2)

-- neighbours, as the test finds them
neighbours_found : (n : ℕ) (inner : List ℕ) (a b : ℕ) → a < n → b < n → are_neighbours inner a b ≡ true → Neighbours n inner a b
neighbours_found n inner a b la lb h =
    ⊎_elim
    (λ (e : is_branch inner a b ≡ true). inl (branch_tested n inner a b lb e))
    (λ (e : is_branch inner b a ≡ true). inr (branch_tested n inner b a la e))
    (or_cases (is_branch inner a b) (is_branch inner b a) h)

-- a move that passes the tests, one after another, is legal
tests_legal : (n : ℕ) (inner wagons : List ℕ) (m : Move) → legality n inner wagons m ≡ Ok tt → Legal n inner wagons m
tests_legal n inner wagons m h =
    let a = passed (ltb m.from n) _ (NoSection m.from) tt h in
    let b = passed (ltb m.to n) _ (NoSection m.to) tt a.1 in
    let c = passed (are_neighbours inner m.from m.to) _ (NotNeighbours 0) tt b.1 in
    let d = not_failed (eqb (get_or wagons m.from 0) 0) _ (NotThere 0) tt c.1 in
    let e = passed (eqb (get_or wagons m.to 0) 0) _ (AlreadyThere 0) tt d.1 in
    let from_in = ltb-true m.from n a.0 in
    let to_in = ltb-true m.to n b.0 in
    record {
      from_in = from_in;
      to_in = to_in;
      neighbours = neighbours_found n inner m.from m.to from_in to_in c.0;
      there = positive (get_or wagons m.from 0) d.0;
      free = eqb-true (get_or wagons m.to 0) 0 e.0;
    }

hand_passed : (x : State) (m : Move) (y : State) → outcome (Hand m) x ≡ Ok y → Does (Hand m) x y
hand_passed x m y h = by_tests (legality x.sections x.inner x.wagons m) refl h
  where
    by_tests : (r : Result (Unit {0}) Refusal) → legality x.sections x.inner x.wagons m ≡ r → if_legal r (on_page x (Ok (hand_moved x m))) ≡ Ok y → Does (Hand m) x y
    by_tests (Ok u) e h =
        let f = passed (ltb x.moves most_moves) _ PageFull y h in
        (tests_legal x.sections x.inner x.wagons m e, ltb-true x.moves most_moves f.0, same_ok _ y f.1)
    by_tests (Err e) t h = let z : ◌≡◌ {A = ℕ} 0 1 = cc in absurd (omega arith)

-- the outcome of a call is what it does
pub outcome_does : (c : Call) (x y : State) → outcome c x ≡ Ok y → Does c x y
outcome_does (Put s) x y h = more_passed x x.wagons s _ y h
outcome_does (Take s) x y h = less_passed x x.wagons s _ y h
outcome_does (Mark s) x y h = more_passed x x.berths s _ y h
outcome_does (Unmark s) x y h = less_passed x x.berths s _ y h
outcome_does (Hand m) x y h = hand_passed x m y h
outcome_does Turn x y h = same_ok _ y h

-- and what it could do is its outcome
pub does_outcome : (c : Call) (x y : State) → Does c x y → outcome c x ≡ Ok y
does_outcome (Put s) x y d = more_done x x.wagons s _ y d
does_outcome (Take s) x y d = less_done x x.wagons s _ y d
does_outcome (Mark s) x y d = more_done x x.berths s _ y d
does_outcome (Unmark s) x y d = less_done x x.berths s _ y d
does_outcome (Hand m) x y d = legal_outcome x m d.0 d.1 ∙ ap Ok (sym d.2)
does_outcome Turn x y d = ap Ok (sym d)

-- so a call that was carried out was made
pub carried_makes : (c : Call) (before after : Siding) (r : Result (Unit {0}) Refusal) → CarriedOut (outcome c (state_of before)) r before after → Makes (Called c) (state_of before) (state_of after)
carried_makes c before after (Ok u) h = Makes.done (outcome_does c (state_of before) (state_of after) h)
carried_makes c before after (Err e) h =
    Makes.refused
    (λ z d. let same = does_outcome c (state_of before) z d in let other = h.0 in let w : ◌≡◌ {A = ℕ} 0 1 = cc in omega arith)
    (ap state_of h.1)

-- and a step that was made or refused
pub stepped_makes : (before after : Siding) (r : Result (Option Move) Refusal) → Stepped before after r → Makes Step (state_of before) (state_of after)
stepped_makes before after (Ok (Some m)) (equal, due, room, e) = Makes.done (equal, inl (m, due, room, e))
stepped_makes before after (Ok None) (equal, settled, e) = Makes.done (equal, inr (settled, ap state_of e))
stepped_makes before after (Err e) (inl (differ, _), same) = Makes.refused (λ z d. differ d.0) (ap state_of same)
stepped_makes before after (Err e) (inr (equal, (m, due), full, _), same) = Makes.refused (λ z d. no_step z d) (ap state_of same)
  where
    no_step : (z : State) → Done Step (state_of before) z → ⊥
    no_step z (_, inl (k, other, room, _)) = omega arith
    no_step z (_, inr (settled, _)) = none_due settled due
