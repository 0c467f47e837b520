-- Legal moves and the demands; lists of moves and how often they cross a section.
use Rattle.std.proofs.lemmas.Grind.{common_steps}
use Rattle.std.proofs.Common.{◌≡◌, ℕ, ◌+◌, ◌-◌, ◌<◌, ◌≤◌, max, ◌≢◌, List, length, nat_abs, count_by, refl, ◌∙◌, arith, rules}
use Rattle.motion.specs.declared.moves.Move.{Move}
use Rattle.motion.specs.Tree.{Tree, under, total}
use Rattle.motion.specs.Demand.{demand_of, figure_of}
use Rattle.motion.specs.Moves.{moved, Legal, Leads, crosses_inward, crosses_outward, one_if}
use Rattle.motion.specs.Floor.{OneUpOrDown}
use Rattle.motion.proofs.Sums.{sum_one}
use Rattle.motion.proofs.Changed.{moved_crosses, length_moved, total_moved}

-- when a move crosses a section, and when not
pub inward_yes : (m : Move) → m.to < m.from → one_if (crosses_inward m.from m) ≡ 1
inward_yes m l = grind arith

pub inward_no : (m : Move) → m.from ≤ m.to → (s : ℕ) → one_if (crosses_inward s m) ≡ 0
inward_no m l s = grind arith

pub inward_other : (m : Move) (s : ℕ) → s ≢ m.from → one_if (crosses_inward s m) ≡ 0
inward_other m s ne = grind arith

pub outward_yes : (m : Move) → m.from < m.to → one_if (crosses_outward m.to m) ≡ 1
outward_yes m l = grind arith

pub outward_no : (m : Move) → m.to ≤ m.from → (s : ℕ) → one_if (crosses_outward s m) ≡ 0
outward_no m l s = grind arith

pub outward_other : (m : Move) (s : ℕ) → s ≢ m.to → one_if (crosses_outward s m) ≡ 0
outward_other m s ne = grind arith

-- no move crosses a section but the higher of its own
pub crosses_other : (m : Move) (s : ℕ) → s ≢ max m.from m.to → (one_if (crosses_inward s m) ≡ 0) × (one_if (crosses_outward s m) ≡ 0)
crosses_other m s ne = grind arith

pub one_demand_changes :
    (n : ℕ) (inner wagons berths : List ℕ) (m : Move) → Tree n inner → n ≤ length wagons → Legal n inner wagons m
    → OneUpOrDown n inner wagons berths m
one_demand_changes n inner wagons berths m tree long legal = search (rules, moved_crosses)

-- over a whole list
pub crossings_balance :
    (n : ℕ) (inner : List ℕ) {wagons end : List ℕ} {ms : List Move} → Tree n inner → n ≤ length wagons → Leads n inner wagons ms end
    → (s : ℕ) → under n inner end s + count_by (crosses_inward s) ms ≡ under n inner wagons s + count_by (crosses_outward s) ms
crossings_balance n inner tree long Leads.stays s = refl
crossings_balance n inner {wagons} tree long (Leads.goes {m = m} {ms = ms} legal rest) s = grind (arith, common_steps, moved_crosses, crossings_balance n inner tree (omega (arith, length_moved n inner tree wagons m legal)) rest s)

pub total_led : (n : ℕ) (inner : List ℕ) {wagons end : List ℕ} {ms : List Move} → Tree n inner → n ≤ length wagons → Leads n inner wagons ms end → total n end ≡ total n wagons
total_led n inner tree long Leads.stays = refl
total_led n inner {wagons} tree long (Leads.goes {m = m} legal rest) =
    total_led n inner tree (omega (arith, length_moved n inner tree wagons m legal)) rest ∙ total_moved n inner tree wagons m legal long

-- the figure after a legal move: only the part of its higher section differs
pub figure_moved :
    (n : ℕ) (inner wagons berths : List ℕ) (m : Move) → Tree n inner → n ≤ length wagons → Legal n inner wagons m
    → (s : ℕ) → s ≡ max m.from m.to
    → figure_of n inner (moved wagons m) berths + nat_abs (demand_of n inner wagons berths s) ≡ figure_of n inner wagons berths + nat_abs (demand_of n inner (moved wagons m) berths s)
unfolding figure_of
figure_moved n inner wagons berths m tree long legal s is = grind (arith, one_demand_changes n inner wagons berths m tree long legal, sum_one (λ k. nat_abs (demand_of n inner wagons berths (k + 1))) (λ k. nat_abs (demand_of n inner (moved wagons m) berths (k + 1))) (n - 1) (s - 1))
