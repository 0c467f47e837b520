-- What a siding keeps through a hand move.
use Rattle.std.proofs.Common.{◌≡◌, ℕ, ◌+◌, ◌-◌, ◌*◌, ◌<◌, ◌≤◌, max, true, eqb, ltb, ◌≢◌, List, length, get_or, set, ℤ, pos, negsuc, ◌+ℤ◌, nat_abs, Ok, Err, Result, sym, ap, ◌∙◌, subst, inl, inr, ⊎_elim, arith}
use Rattle.std.proofs.lemmas.List.{get_or-set_same, get_or-set_other, length-set}
use Rattle.std.proofs.lemmas.Int.{ints}
use Rattle.std.proofs.lemmas.Bool.{cases_eq, cond-true, cond-false, lt-ltb, le-ltb, eq-eqb, ne_eqb, or_left, or_right}
use Rattle.motion.specs.Tree.{total}
use Rattle.motion.specs.Demand.{demand_of, figure_of, Single}
use Rattle.motion.specs.Moves.{Neighbours, moved, one_less, Legal, one_if}
use Rattle.motion.specs.State.{State, most_moves}
use Rattle.motion.specs.Calls.{hand_moved}
use Rattle.motion.specs.declared.calls.Call.TheVariants.{Hand}
use Rattle.motion.specs.declared.moves.Move.{Move}
use Rattle.motion.proofs.Changed.{length_moved, total_moved, single_more, single_less}
use Rattle.motion.proofs.Crossings.{one_demand_changes, figure_moved}
use Rattle.motion.proofs.Pages.{hand_balances, legal_apart}
use Rattle.siding.specs.declared.siding.Siding.{Siding}
use Rattle.siding.specs.declared.siding.hand.Crossing.{Crossing}
use Rattle.siding.specs.Hand.{Crosses, MayMove}
use Rattle.siding.specs.Outcome.{outcome, are_neighbours, legality, if_legal, on_page}
use Rattle.refusal.specs.declared.Refusal.{Refusal}
use Rattle.refusal.specs.declared.Refusal.TheVariants.{PageFull}
use Rattle.siding.specs.Kept.{Clear, TrueDemands, ClearDemands}
use Rattle.siding.specs.Stands.{state_of}
use Rattle.siding.proofs.Branches.{branch_found}
use Rattle.siding.proofs.Held.{held_tree, one_wagon, wagons_counted}
use Rattle.siding.proofs.Stocked.{clear_set}

module _ (x : Siding) (m : Move) (legal : Legal x.track.sections x.track.inner x.wagons.in_section m) where
  long : x.track.sections ≤ length x.wagons.in_section
  long = omega (arith, x.track.most, x.wagons.long)

  -- the higher section is one of the siding's, and not the neck
  pub crossed_within : (s : ℕ) → s ≡ max m.from m.to → (0 < s) × (s < x.track.sections)
  crossed_within s e =
      ⊎_elim
      (λ (l : m.to < m.from). (omega arith, omega (arith, legal.from_in)))
      (λ (l : m.from < m.to). (omega arith, omega (arith, legal.to_in)))
      (legal_apart x.track.sections x.track.inner x.wagons.in_section m (held_tree x) legal)

  -- the demand of the higher section, one up or one down, and the figure with it
  crosses_by : (c : Crossing) (s : ℕ) → s ≡ max m.from m.to → c.section ≡ s
      → c.demand ≡ demand_of x.track.sections x.track.inner (moved x.wagons.in_section m) x.berths.in_section s
      → c.figure + nat_abs (get_or x.demand s (pos 0)) ≡ x.figure + nat_abs c.demand → Crosses x m c
  crosses_by c s e at is adds =
      let all = figure_moved x.track.sections x.track.inner x.wagons.in_section x.berths.in_section m (held_tree x) long legal s e in
      let old = ap nat_abs (x.demands s (crossed_within s e).1) in
      let new = ap nat_abs is in
      record {
        section = at ∙ e;
        demand = is ∙ ap (demand_of x.track.sections x.track.inner (moved x.wagons.in_section m) x.berths.in_section) (sym at);
        figure = omega (arith, x.sums);
      }

  pub crosses_inward : (c : Crossing) → m.to < m.from → c.section ≡ m.from → c.demand ≡ get_or x.demand m.from (pos 0) +ℤ pos 1
      → c.figure + nat_abs (get_or x.demand m.from (pos 0)) ≡ x.figure + nat_abs c.demand → Crosses x m c
  crosses_inward c l at is adds =
      let up = (one_demand_changes x.track.sections x.track.inner x.wagons.in_section x.berths.in_section m (held_tree x) long legal).inward l in
      let old = x.demands m.from legal.from_in in
      crosses_by c m.from (omega arith) at (is ∙ ap (λ d. d +ℤ pos 1) old ∙ sym up) adds

  pub crosses_outward : (c : Crossing) → m.from ≤ m.to → c.section ≡ m.to → c.demand ≡ get_or x.demand m.to (pos 0) +ℤ negsuc 0
      → c.figure + nat_abs (get_or x.demand m.to (pos 0)) ≡ x.figure + nat_abs c.demand → Crosses x m c
  crosses_outward c g at is adds =
      let l : m.from < m.to = ⊎_elim (λ (h : m.to < m.from). omega arith) (λ (h : m.from < m.to). h) (legal_apart x.track.sections x.track.inner x.wagons.in_section m (held_tree x) legal) in
      let down = (one_demand_changes x.track.sections x.track.inner x.wagons.in_section x.berths.in_section m (held_tree x) long legal).outward l in
      let old = x.demands m.to legal.to_in in
      crosses_by c m.to (omega arith) at (omega (arith, ints)) adds

  -- the wagons after the move
  pub moved_long : length (moved x.wagons.in_section m) ≡ 512
  moved_long = length_moved x.track.sections x.track.inner (held_tree x) x.wagons.in_section m legal ∙ x.wagons.long

  left : List ℕ
  left = one_less x.wagons.in_section m.from

  left_long : x.track.sections ≤ length left
  unfolding left
  left_long = omega (arith, length-set x.wagons.in_section m.from (get_or x.wagons.in_section m.from 0 - 1), long)

  -- the section that it enters is still free once the wagon has left
  still_free : get_or left m.to 0 ≡ 0
  unfolding left
  still_free =
      let apart : m.to ≢ m.from = ⊎_elim (λ (h : m.to < m.from). λ e. omega arith) (λ (h : m.from < m.to). λ e. omega arith) (legal_apart x.track.sections x.track.inner x.wagons.in_section m (held_tree x) legal) in
      get_or-set_other x.wagons.in_section m.from m.to _ 0 apart ∙ legal.free

  pub moved_single : Single x.track.sections (moved x.wagons.in_section m)
  unfolding left
  moved_single =
      single_more x.track.sections left m.to legal.to_in left_long still_free
      (single_less x.track.sections x.wagons.in_section m.from legal.from_in long (one_wagon x))

  pub moved_clear : Clear x.track.sections (moved x.wagons.in_section m)
  unfolding left
  moved_clear = clear_set x.track.sections left m.to legal.to_in left_long _ (clear_set x.track.sections x.wagons.in_section m.from legal.from_in long _ x.clear.0)

  pub moved_count : x.wagons.in_all ≡ total x.track.sections (moved x.wagons.in_section m)
  moved_count = wagons_counted x ∙ sym (total_moved x.track.sections x.track.inner (held_tree x) x.wagons.in_section m legal long)

  module _ (c : Crossing) (crosses : Crosses x m c) (stored : ℤ) (same : stored ≡ c.demand) where
    pub moved_demands : TrueDemands x.track.sections x.track.inner (moved x.wagons.in_section m) x.berths.in_section (set x.demand c.section stored)
    moved_demands s l =
        ⊎_elim
        (λ (e : s ≡ c.section).
        ap (λ k. get_or (set x.demand c.section stored) k (pos 0)) e
        ∙ get_or-set_same x.demand c.section stored (pos 0) (let w = crossed_within c.section crosses.section in omega (arith, x.track.most, x.long))
        ∙ same ∙ crosses.demand
        ∙ ap (demand_of x.track.sections x.track.inner (moved x.wagons.in_section m) x.berths.in_section) (sym e))
        (λ (ne : s ≡ c.section → ⊥).
        get_or-set_other x.demand c.section s stored (pos 0) ne
        ∙ x.demands s l
        ∙ sym ((one_demand_changes x.track.sections x.track.inner x.wagons.in_section x.berths.in_section m (held_tree x) long legal).others s (λ e. ne (e ∙ sym crosses.section))))
        (cases_eq s c.section)

    pub moved_clear_demands : ClearDemands x.track.sections (set x.demand c.section stored)
    moved_clear_demands s l =
        let w = crossed_within c.section crosses.section in
        get_or-set_other x.demand c.section s stored (pos 0) (λ e. omega arith) ∙ x.clear_demand s l

  -- the page after it
  pub moved_page : (c : Crossing) → Crosses x m c → x.page.moves + 1 + c.figure ≡ x.page.head + 2 * (x.page.away + one_if (ltb x.figure c.figure))
  moved_page c crosses =
      let law = hand_balances (state_of x) m (held_tree x) long legal (ap (λ f. x.page.moves + f) (sym x.sums) ∙ x.balances) in
      let P : ℕ → ℕ → Type 0 = λ f g. x.page.moves + 1 + g ≡ x.page.head + 2 * (x.page.away + one_if (ltb f g)) in
      subst (λ f. P f c.figure) (sym x.sums) (subst (P (figure_of x.track.sections x.track.inner x.wagons.in_section x.berths.in_section)) (sym crosses.figure) law)

-- what the contract of the call says of it
neighbours_tested : (n : ℕ) (inner : List ℕ) (a b : ℕ) → Neighbours n inner a b → are_neighbours inner a b ≡ true
neighbours_tested n inner a b (inl out) = or_left _ _ (branch_found n inner a b out)
neighbours_tested n inner a b (inr inw) = or_right _ _ (branch_found n inner b a inw)

-- a legal move meets no refusal
pub legal_passes : (n : ℕ) (inner wagons : List ℕ) (m : Move) → Legal n inner wagons m → legality n inner wagons m ≡ Ok tt
legal_passes n inner wagons m legal =
    cond-true (ltb m.from n) _ _ (lt-ltb m.from n legal.from_in)
    ∙ cond-true (ltb m.to n) _ _ (lt-ltb m.to n legal.to_in)
    ∙ cond-true (are_neighbours inner m.from m.to) _ _ (neighbours_tested n inner m.from m.to legal.neighbours)
    ∙ cond-false (eqb (get_or wagons m.from 0) 0) _ _ (ne_eqb (get_or wagons m.from 0) 0 (λ e. omega (arith, legal.there)))
    ∙ cond-true (eqb (get_or wagons m.to 0) 0) _ _ (eq-eqb (get_or wagons m.to 0) 0 legal.free)

-- so a hand move is done on a page with room
pub legal_outcome : (x : State) (m : Move) → Legal x.sections x.inner x.wagons m → x.moves < most_moves → outcome (Hand m) x ≡ Ok (hand_moved x m)
legal_outcome x m legal room =
    ap (λ r. if_legal r (on_page x (Ok (hand_moved x m)))) (legal_passes x.sections x.inner x.wagons m legal)
    ∙ cond-true (ltb x.moves most_moves) _ _ (lt-ltb x.moves most_moves room)

-- and on a page without room it is refused for that
pub full_outcome :
    (x : State) (m : Move) → Legal x.sections x.inner x.wagons m → most_moves ≤ x.moves → outcome (Hand m) x ≡ Err PageFull
full_outcome x m legal full =
    ap (λ r. if_legal r (on_page x (Ok (hand_moved x m)))) (legal_passes x.sections x.inner x.wagons m legal)
    ∙ cond-false (ltb x.moves most_moves) _ _ (le-ltb x.moves most_moves full)

pub same_ok : (a y : State) → ◌≡◌ {A = Result State Refusal} (Ok a) (Ok y) → y ≡ a
same_ok a y h = cc

-- a siding after a move, on the same page
abbrev pub away_counted : State → List ℕ → ℕ → State
away_counted x wagons away = record {
  sections = x.sections;
  inner = x.inner;
  wagons = wagons;
  berths = x.berths;
  head = x.head;
  moves = x.moves + 1;
  away = away;
}

module _ (x : Siding) (m : Move) (may : MayMove x m) where
  -- only the count of away moves wants a word
  pub hand_done : (c : Crossing) (more : ℕ) → Crosses x m c → more ≡ one_if (ltb x.figure c.figure)
      → (y : State) → y ≡ away_counted (state_of x) (moved x.wagons.in_section m) (x.page.away + more) → outcome (Hand m) (state_of x) ≡ Ok y
  hand_done c more crosses is y e =
      let counted : more ≡ one_if (ltb (figure_of x.track.sections x.track.inner x.wagons.in_section x.berths.in_section) (figure_of x.track.sections x.track.inner (moved x.wagons.in_section m) x.berths.in_section)) =
      is ∙ ap (λ f. one_if (ltb f c.figure)) x.sums ∙ ap (λ g. one_if (ltb (figure_of x.track.sections x.track.inner x.wagons.in_section x.berths.in_section) g)) crosses.figure in
      legal_outcome (state_of x) m may.legal may.room ∙ ap (λ k. Ok (away_counted (state_of x) (moved x.wagons.in_section m) (x.page.away + k))) (sym counted) ∙ ap Ok (sym e)
