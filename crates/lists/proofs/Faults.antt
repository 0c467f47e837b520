-- The refusal of a move says why it is not legal.
use Rattle.std.proofs.Common.{◌≡◌, ℕ, ◌<◌, Bool, true, false, cond, eqb, ltb, List, get_or, Ok, Err, Result, refl, sym, ap, ◌∙◌, inl, inr, subst, ⊎_elim, arith, OnOk, MatchResult, IsErrAnd}
use Rattle.std.proofs.lemmas.Bool.{ltb-true, ltb-false, eqb-true, eqb-false, or_cases, or_parts}
use Rattle.refusal.specs.Number.{at_place}
use Rattle.refusal.specs.declared.Refusal.{Refusal}
use Rattle.refusal.specs.declared.Refusal.TheVariants.{NoSection, NotNeighbours, NotThere, AlreadyThere}
use Rattle.motion.specs.declared.moves.Move.{Move}
use Rattle.motion.specs.Moves.{Neighbours, Legal}
use Rattle.motion.specs.Tree.{is_branch}
use Rattle.siding.specs.Outcome.{are_neighbours, legality}
use Rattle.lists.specs.Check.{Fault, Tried}
use Rattle.lists.proofs.Sought.{tested, passing}

module _ (n : ℕ) (inner : List ℕ) where
  neighbours_tested : (a b : ℕ) → a < n → b < n → are_neighbours inner a b ≡ true → Neighbours n inner a b
  neighbours_tested a b la lb h =
      ⊎_elim
      (λ (e : is_branch inner a b ≡ true). inl (tested n inner a b lb e))
      (λ (e : is_branch inner b a ≡ true). inr (tested n inner b a la e))
      (or_cases (is_branch inner a b) (is_branch inner b a) h)

  not_neighbours : (a b : ℕ) → are_neighbours inner a b ≡ false → Neighbours n inner a b → ⊥
  not_neighbours a b h (inl out) = let p = or_parts (is_branch inner a b) (is_branch inner b a) h in let e : true ≡ false = sym (passing n inner a b out) ∙ p.0 in cc
  not_neighbours a b h (inr in') = let p = or_parts (is_branch inner a b) (is_branch inner b a) h in let e : true ≡ false = sym (passing n inner b a in') ∙ p.1 in cc

  module _ (wagons : List ℕ) (m : Move) (index : ℕ) (at : Refusal → Refusal) (six : (k : ℕ) → at (NoSection k) ≡ NoSection index) (nine : at (NotNeighbours 0) ≡ NotNeighbours index)
      (eight : at (NotThere 0) ≡ NotThere index) (seven : at (AlreadyThere 0) ≡ AlreadyThere index) (r : Refusal) where
    abbrev Says : Result (Unit {0}) Refusal → Type 0
    Says what = ◌≡◌ {A = Result (Unit {0}) Refusal} (Err r) what

    last : (b : Bool) → eqb (get_or wagons m.to 0) 0 ≡ b → m.from < n → m.to < n → Neighbours n inner m.from m.to → 0 < get_or wagons m.from 0
        → Says (cond b (Ok tt) (Err (AlreadyThere 0))) → Fault n inner wagons m index (at r)
    last true t f o near there says = let z : ◌≡◌ {A = Result (Unit {0}) Refusal} (Err r) (Ok tt) = says in cc
    last false t f o near there says = let e : r ≡ AlreadyThere 0 = cc in inr (f, inr (o, inr (near, inr (there, inl (eqb-false (get_or wagons m.to 0) 0 t, ap at e ∙ seven)))))

    third : (b : Bool) → eqb (get_or wagons m.from 0) 0 ≡ b → m.from < n → m.to < n → Neighbours n inner m.from m.to
        → Says (cond b (Err (NotThere 0)) (cond (eqb (get_or wagons m.to 0) 0) (Ok tt) (Err (AlreadyThere 0)))) → Fault n inner wagons m index (at r)
    third true t f o near says = let e : r ≡ NotThere 0 = cc in let none = eqb-true (get_or wagons m.from 0) 0 t in inr (f, inr (o, inr (near, inl (λ l. omega arith, ap at e ∙ eight))))
    third false t f o near says = let some = eqb-false (get_or wagons m.from 0) 0 t in last (eqb (get_or wagons m.to 0) 0) refl f o near (omega arith) says

    second : (b : Bool) → are_neighbours inner m.from m.to ≡ b → m.from < n → m.to < n
        → Says (cond b (cond (eqb (get_or wagons m.from 0) 0) (Err (NotThere 0)) (cond (eqb (get_or wagons m.to 0) 0) (Ok tt) (Err (AlreadyThere 0)))) (Err (NotNeighbours 0)))
        → Fault n inner wagons m index (at r)
    second true t f o says = third (eqb (get_or wagons m.from 0) 0) refl f o (neighbours_tested m.from m.to f o t) says
    second false t f o says = let e : r ≡ NotNeighbours 0 = cc in inr (f, inr (o, inl (not_neighbours m.from m.to t, ap at e ∙ nine)))

    first : (a b : Bool) → ltb m.from n ≡ a → ltb m.to n ≡ b
        → Says (cond a (cond b (cond (are_neighbours inner m.from m.to) (cond (eqb (get_or wagons m.from 0) 0) (Err (NotThere 0)) (cond (eqb (get_or wagons m.to 0) 0) (Ok tt) (Err (AlreadyThere 0)))) (Err (NotNeighbours 0)))
        (Err (NoSection m.to))) (Err (NoSection m.from)))
        → Fault n inner wagons m index (at r)
    first true true s t says = second (are_neighbours inner m.from m.to) refl (ltb-true m.from n s) (ltb-true m.to n t) says
    first true false s t says = let e : r ≡ NoSection m.to = cc in let out = ltb-false m.to n t in inr (ltb-true m.from n s, inl (λ l. omega arith, ap at e ∙ six m.to))
    first false b s t says = let e : r ≡ NoSection m.from = cc in let out = ltb-false m.from n s in inl (λ l. omega arith, ap at e ∙ six m.from)

    fault_at : Says (legality n inner wagons m) → Fault n inner wagons m index (at r)
    fault_at says = first (ltb m.from n) (ltb m.to n) refl refl says

  -- a move is tried: the refusal has the place put in
  module _ (wagons : List ℕ) (m : Move) (index : ℕ) where
    fault_placed : (e : Refusal) → ◌≡◌ {A = Result (Unit {0}) Refusal} (Err e) (legality n inner wagons m) → Fault n inner wagons m index (at_place e index)
    fault_placed e says = fault_at wagons m index (λ r. at_place r index) (λ k. refl) refl refl refl e says

    pub tried : (P : Refusal → Refusal → Type 0) → ((e f : Refusal) → P e f → f ≡ at_place e index) → (r s : Result (Unit {0}) Refusal) → r ≡ legality n inner wagons m → OnOk r (Legal n inner wagons m)
        → MatchResult r (λ x. s ≡ Ok x) (λ e. IsErrAnd s (P e)) → Tried n inner wagons m index s
    tried P is (Ok u) (Ok v) says legal cases = legal
    tried P is (Ok u) (Err f) says legal cases = let z : ◌≡◌ {A = Result (Unit {0}) Refusal} (Err f) (Ok u) = cases in cc
    tried P is (Err e) (Ok v) says legal cases = absurd cases
    tried P is (Err e) (Err f) says legal cases = subst (Fault n inner wagons m index) (sym (is e f cases)) (fault_placed e says)
