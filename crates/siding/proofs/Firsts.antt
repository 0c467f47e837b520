-- The first unsettled section, and the first move of its handing on.
use Rattle.std.proofs.Common.{◌≡◌, ℕ, ◌+◌, ◌<◌, ◌≤◌, Bool, false, ltb, List, Some, None, Ok, Err, Decides, Option, Result, sym, ap, ◌∙◌, inr, ⊎_elim, arith}
use Rattle.std.proofs.lemmas.Bool.{le-ltb, cases_lt}
use Rattle.std.proofs.lemmas.Bool.Decides.{not_from_Decides}
use Rattle.refusal.specs.declared.Refusal.{Refusal}
use Rattle.refusal.specs.declared.Refusal.TheVariants.{PageFull}
use Rattle.motion.specs.declared.moves.Move.{Move}
use Rattle.motion.specs.declared.ways.Way.{Way}
use Rattle.motion.specs.declared.calls.Call.TheVariants.{Hand}
use Rattle.motion.specs.Demand.{figure_of}
use Rattle.motion.specs.Visit.{FirstUnsettled, AllSettled}
use Rattle.motion.specs.Due.{Ready, Open, LowestAsking, FirstMove}
use Rattle.motion.specs.Stepping.{Even}
use Rattle.motion.specs.Moves.{Legal, moved, one_if}
use Rattle.motion.specs.State.{State, figure, with_wagons, most_moves, EqualNumbers}
use Rattle.motion.specs.Calls.{hand_moved, stepped}
use Rattle.motion.proofs.Order.{below_the_neck}
use Rattle.motion.proofs.Asking.{unsettled_asks, ready_or_open}
use Rattle.motion.proofs.DueMoves.{first_zero, due_is_legal}
use Rattle.siding.specs.declared.siding.Siding.{Siding}
use Rattle.siding.specs.Outcome.{outcome}
use Rattle.siding.specs.Stands.{state_of}
use Rattle.siding.specs.Steps.{CalmBelow, FirstBelow, MovesFirst, IsDue, Stepped}
use Rattle.siding.proofs.Held.{held_tree, one_wagon, one_berth}
use Rattle.siding.proofs.Handed.{legal_outcome, full_outcome, same_ok}

abbrev with_away : State → ℕ → State
with_away x k = record {
  sections = x.sections;
  inner = x.inner;
  wagons = x.wagons;
  berths = x.berths;
  head = x.head;
  moves = x.moves;
  away = k;
}

same_err : (a b : Refusal) → ◌≡◌ {A = Result State Refusal} (Err a) (Err b) → a ≡ b
same_err a b h = cc

pub onward_first : (x : Siding) (way : Way) (u v : ℕ) (r : Option Move) → LowestAsking way x.track.sections x.track.inner x.wagons.in_section x.berths.in_section u v → Ready way x.wagons.in_section v → MovesFirst x way v r → MovesFirst x way u r
onward_first x way u v (Some m) low ready first = FirstMove.onward low ready first
onward_first x way u v None low ready first = first

-- a branch that is not open is ready to hand on itself
pub ready_unless_open : (way : Way) (wagons : List ℕ) (v : ℕ) (r : Bool) → Decides r (Open way wagons v) → r ≡ false → Ready way wagons v
ready_unless_open way wagons v r decides no_open =
    ⊎_elim (λ (h : Ready way wagons v). h) (λ (o : Open way wagons v). absurd (not_from_Decides r decides no_open o)) (ready_or_open way wagons v)

-- with as many wagons as berths
pub held_even : (x : Siding) → EqualNumbers (state_of x) → Even x.track.sections x.track.inner x.wagons.in_section x.berths.in_section
held_even x e = record {
  some = omega (arith, x.track.some);
  tree = held_tree x;
  long = omega (arith, x.track.most, x.wagons.long);
  one_wagon = (one_wagon x);
  one_berth = (one_berth x);
  equal = e;
}

-- a visit from the neck sees every section
pub calm_all : (x : Siding) → CalmBelow x 0 → AllSettled x.track.sections x.track.inner x.wagons.in_section x.berths.in_section
calm_all x calm u l = calm u l (below_the_neck x.track.sections x.track.inner (held_tree x) u u (omega arith) l)

pub first_of_all : (x : Siding) (u : ℕ) → FirstBelow x 0 u → FirstUnsettled x.track.sections x.track.inner x.wagons.in_section x.berths.in_section u
first_of_all x u first = record {
  within = first.within;
  unsettled = first.unsettled;
  none_before = λ t l before un. first.none_before t l (below_the_neck x.track.sections x.track.inner (held_tree x) t t (omega arith) l) before un;
}

pub first_asks : (x : Siding) (way : Way) (u : ℕ) → EqualNumbers (state_of x) → FirstBelow x 0 u → Ready way x.wagons.in_section u → (v : ℕ) × LowestAsking way x.track.sections x.track.inner x.wagons.in_section x.berths.in_section u v
first_asks x way u e first ready =
    let all = first_of_all x u first in
    unsettled_asks x.track.sections x.track.inner x.wagons.in_section x.berths.in_section (held_tree x) (one_berth x) way u first.within ready
    (first_zero x.track.sections x.track.inner x.wagons.in_section x.berths.in_section (held_even x e) u first.within all.none_before) first.unsettled

pub first_due : (x : Siding) (way : Way) (u : ℕ) (r : Option Move) → FirstBelow x 0 u → Ready way x.wagons.in_section u → MovesFirst x way u r → IsDue x r
first_due x way u (Some m) first ready moves = record { way = way; section = u; first = first_of_all x u first; ready = ready; move = moves }
first_due x way u None first ready moves = absurd moves

-- the move that is due, made by hand, is a step
module _ (x : Siding) (m : Move) (e : EqualNumbers (state_of x)) (due : IsDue x (Some m)) where
  does : Legal x.track.sections x.track.inner x.wagons.in_section m × (figure_of x.track.sections x.track.inner (moved x.wagons.in_section m) x.berths.in_section + 1 ≡ figure_of x.track.sections x.track.inner x.wagons.in_section x.berths.in_section)
  does = due_is_legal x.track.sections x.track.inner x.wagons.in_section x.berths.in_section m (held_even x e) due

  -- it does not go away
  hand_is_step : hand_moved (state_of x) m ≡ stepped (state_of x) m
  hand_is_step =
      let before : ℕ = figure (state_of x) in
      let after : ℕ = figure (with_wagons (state_of x) (moved x.wagons.in_section m)) in
      let none : one_if (ltb before after) ≡ 0 = ap one_if (le-ltb before after (omega (arith, does.1))) in
      let same : x.page.away + one_if (ltb before after) ≡ x.page.away = omega arith in
      ap (λ k. with_away (stepped (state_of x) m) k) same

  pub step_done : (y : Siding) → outcome (Hand m) (state_of x) ≡ Ok (state_of y) → Stepped x y (Ok (Some m))
  step_done y h =
      ⊎_elim
      (λ (room : x.page.moves < most_moves).
      let made = legal_outcome (state_of x) m does.0 room in
      ((held_even x e).equal, due, room, same_ok (hand_moved (state_of x) m) (state_of y) (sym made ∙ h) ∙ hand_is_step))
      (λ (full : most_moves ≤ x.page.moves).
      let made = full_outcome (state_of x) m does.0 full in
      let z : ◌≡◌ {A = ℕ} 0 1 = cc in absurd (omega arith))
      (cases_lt x.page.moves most_moves)

  pub step_refused : (y : Siding) (r : Refusal) → outcome (Hand m) (state_of x) ≡ Err r → y ≡ x → Stepped x y (Err r)
  step_refused y r h same =
      ⊎_elim
      (λ (room : x.page.moves < most_moves).
      let made = legal_outcome (state_of x) m does.0 room in
      let z : ◌≡◌ {A = ℕ} 0 1 = cc in absurd (omega arith))
      (λ (full : most_moves ≤ x.page.moves).
      let made = full_outcome (state_of x) m does.0 full in
      (inr ((held_even x e).equal, (m, due), full, same_err r PageFull (sym h ∙ made)), same))
      (cases_lt x.page.moves most_moves)
