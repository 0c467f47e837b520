-- The answer of a check: why a list stops, that there is one answer only, and that it accepts just the filling lists.
use Rattle.std.proofs.Common.{◌≡◌, ℕ, ◌+◌, ◌<◌, ◌⊎◌, List, ◌++◌, length, get_or, take, drop, Ok, Err, Result, sym, ap, ◌∙◌, subst, inl, inr, arith}
use Rattle.std.proofs.lemmas.List.{length-take-le, take-append-drop, drop_more}
use Rattle.std.proofs.lemmas.Bool.{cases_order}
use Rattle.refusal.specs.declared.Refusal.{Refusal}
use Rattle.refusal.specs.declared.Refusal.TheVariants.{BerthEmpty}
use Rattle.motion.specs.declared.moves.Move.{Move}
use Rattle.motion.specs.Moves.{Legal, Leads, Fills}
use Rattle.motion.specs.Promises.{FillsFrom}
use Rattle.motion.specs.State.{State, EqualNumbers}
use Rattle.motion.proofs.Led.{leads_once, leads_through, stops_once}
use Rattle.lists.specs.Check.{Unless, Fault, Stopped, LowestEmpty, LeftEmpty, Checked, CheckIsExact}

-- a test leaves no choice where the rest leaves none
unless_once : (P : Type 0) (this : Refusal) (Rest : Refusal → Type 0) → ((e f : Refusal) → Rest e → Rest f → e ≡ f)
    → (e f : Refusal) → Unless P this Rest e → Unless P this Rest f → e ≡ f
unless_once P this Rest rest e f (inl (_, p)) (inl (_, q)) = p ∙ sym q
unless_once P this Rest rest e f (inl (fails, _)) (inr (holds, _)) = absurd (fails holds)
unless_once P this Rest rest e f (inr (holds, _)) (inl (fails, _)) = absurd (fails holds)
unless_once P this Rest rest e f (inr (_, p)) (inr (_, q)) = rest e f p q

module _ (n : ℕ) (inner : List ℕ) where
  -- a fault is one of a move that is not legal, and there is one only
  fault_stuck : (wagons : List ℕ) (m : Move) (i : ℕ) (e : Refusal) → Fault n inner wagons m i e → Legal n inner wagons m → ⊥
  fault_stuck wagons m i e (inl (fails, _)) legal = fails legal.from_in
  fault_stuck wagons m i e (inr (_, inl (fails, _))) legal = fails legal.to_in
  fault_stuck wagons m i e (inr (_, inr (_, inl (fails, _)))) legal = fails legal.neighbours
  fault_stuck wagons m i e (inr (_, inr (_, inr (_, inl (fails, _))))) legal = fails legal.there
  fault_stuck wagons m i e (inr (_, inr (_, inr (_, inr (_, inl (fails, _)))))) legal = fails legal.free
  fault_stuck wagons m i e (inr (_, inr (_, inr (_, inr (_, inr (_, none)))))) legal = none

  fault_once : (wagons : List ℕ) (m : Move) (i : ℕ) (e f : Refusal) → Fault n inner wagons m i e → Fault n inner wagons m i f → e ≡ f
  fault_once wagons m i =
      unless_once _ _ _ (unless_once _ _ _ (unless_once _ _ _ (unless_once _ _ _ (unless_once _ _ _ (λ e f none _. absurd none)))))

  module _ (wagons : List ℕ) (ms : List Move) where
    -- the move at an index, where those before it lead, is not legal
    pub stopped_at : (i : ℕ) (d : Move) (reached : List ℕ) (e : Refusal) → i < length ms → Leads n inner wagons (take i ms) reached
        → Fault n inner reached (get_or ms i d) i e → Stopped n inner wagons ms e
    stopped_at i d reached e l leads fault = record {
      before = take i ms;
      at = get_or ms i d;
      after = drop (i + 1) ms;
      split = sym (take-append-drop i ms) ∙ ap (λ rest. take i ms ++ rest) (drop_more ms i d l);
      reached = reached;
      leads = leads;
      fault = subst (λ k. Fault n inner reached (get_or ms i d) k e) (sym (length-take-le i ms (omega arith))) fault;
    }

    stopped_once : (e f : Refusal) → Stopped n inner wagons ms e → Stopped n inner wagons ms f → e ≡ f
    stopped_once e f a b =
        let same = stops_once a.before b.before a.after b.after a.at b.at (sym a.split ∙ b.split) a.leads b.leads
        (fault_stuck a.reached a.at _ e a.fault) (fault_stuck b.reached b.at _ f b.fault) in
        let there : a.reached ≡ b.reached = leads_once b.before (subst (λ k. Leads n inner wagons k a.reached) same.0 a.leads) b.leads in
        let first : Fault n inner b.reached a.at (length a.before) e = subst (λ r. Fault n inner r a.at (length a.before) e) there a.fault in
        let second : Fault n inner b.reached b.at (length a.before) e = subst (λ m. Fault n inner b.reached m (length a.before) e) same.1 first in
        let third : Fault n inner b.reached b.at (length b.before) e = subst (λ k. Fault n inner b.reached b.at (length k) e) same.0 second in
        fault_once b.reached b.at (length b.before) e f third b.fault

    stopped_not_led : (e : Refusal) (end : List ℕ) → Stopped n inner wagons ms e → Leads n inner wagons ms end → ⊥
    stopped_not_led e end s leads =
        fault_stuck s.reached s.at _ e s.fault
        (leads_through s.before s.after s.at (subst (λ k. Leads n inner wagons k end) s.split leads) s.leads)

    module _ (berths : List ℕ) where
      lowest_once : (end : List ℕ) (a b : ℕ) → LowestEmpty n end berths a → LowestEmpty n end berths b → a ≡ b
      lowest_once end a b p q =
          elim (cases_order a b) [
            | inl same ↦ same
            | inr (inl less) ↦ absurd (omega (arith, q.lower a less, p.empty))
            | inr (inr more) ↦ absurd (omega (arith, p.lower b more, q.empty))
          ]

      empty_once : (e f : Refusal) → LeftEmpty n inner wagons berths ms e → LeftEmpty n inner wagons berths ms f → e ≡ f
      empty_once e f a b =
          let there : a.end ≡ b.end = leads_once ms a.leads b.leads in
          let lowest = subst (λ w. LowestEmpty n w berths a.berth) there a.lowest in
          a.named ∙ ap BerthEmpty (lowest_once b.end a.berth b.berth lowest b.lowest) ∙ sym b.named

      empty_not_filled : (e : Refusal) → LeftEmpty n inner wagons berths ms e → Fills n inner wagons berths ms → ⊥
      empty_not_filled e a fills =
          let there : a.end ≡ fills.end = leads_once ms a.leads fills.leads in
          let lowest = subst (λ w. LowestEmpty n w berths a.berth) there a.lowest in
          omega (arith, fills.filled a.berth lowest.within, lowest.empty)

      why_once : (e f : Refusal) → Stopped n inner wagons ms e ⊎ LeftEmpty n inner wagons berths ms e → Stopped n inner wagons ms f ⊎ LeftEmpty n inner wagons berths ms f → e ≡ f
      why_once e f (inl p) (inl q) = stopped_once e f p q
      why_once e f (inl p) (inr q) = absurd (stopped_not_led e _ p q.leads)
      why_once e f (inr p) (inl q) = absurd (stopped_not_led f _ q p.leads)
      why_once e f (inr p) (inr q) = empty_once e f p q

module _ (x : State) (ms : List Move) where
  -- with equal numbers a list that is refused fills nothing
  not_filling : (e : Refusal) → Checked x ms (Err e) → EqualNumbers x → FillsFrom x ms → ⊥
  not_filling e (inl (fails, _)) equal fills = fails equal
  not_filling e (inr (_, inl s)) equal fills = stopped_not_led x.sections x.inner x.wagons ms e _ s fills.leads
  not_filling e (inr (_, inr s)) equal fills = empty_not_filled x.sections x.inner x.wagons ms x.berths e s fills

  -- two answers to one list are the same
  pub one_answer : (q r : Result ℕ Refusal) → Checked x ms q → Checked x ms r → q ≡ r
  one_answer (Ok j) (Ok k) p q = ap Ok (p.2 ∙ sym q.2)
  one_answer (Ok j) (Err e) p q = absurd (not_filling e q p.0 p.1)
  one_answer (Err e) (Ok k) p q = absurd (not_filling e p q.0 q.1)
  one_answer (Err e) (Err f) p q = ap Err (unless_once _ _ _ (why_once x.sections x.inner x.wagons ms x.berths) e f p q)

  pub exact : (r : Result ℕ Refusal) → Checked x ms r → CheckIsExact x ms r
  exact (Ok k) p = λ equal. (λ _. p.1, λ _. tt)
  exact (Err e) p = λ equal. (λ never. absurd never, not_filling e p equal)
