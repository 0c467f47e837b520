-- The moves due cross no section oftener, inward or outward, than any filling list does.
use Rattle.std.proofs.Common.{◌≡◌, ℕ, ◌+◌, ◌-◌, ◌<◌, ◌≤◌, List, nat_abs, count_by, ⊎_elim, arith}
use Rattle.std.proofs.lemmas.Int.{ints}
use Rattle.std.proofs.lemmas.Bool.{cases_lt}
use Rattle.motion.specs.declared.moves.Move.{Move}
use Rattle.motion.specs.Tree.{under}
use Rattle.motion.specs.Demand.{demand_of, figure_of}
use Rattle.motion.specs.Moves.{Leads, Fills, crosses_inward, crosses_outward}
use Rattle.motion.specs.Stepping.{Stepping, Even, FillsInFigure}
use Rattle.motion.proofs.Sums.{sum_below}
use Rattle.motion.proofs.Crossings.{crossings_balance, total_led}
use Rattle.motion.proofs.Floors.{squeezed, filled_under, all_crossed, all_crossed_most}
use Rattle.motion.proofs.StepsEnd.{stepping_fills}

-- legal moves cross no section but those from 1 on below n
outside_none :
    (n : ℕ) (inner : List ℕ) {wagons end : List ℕ} {ms : List Move} → Leads n inner wagons ms end → (s : ℕ) → (1 ≤ s → n ≤ s)
    → (count_by (crosses_inward s) ms ≡ 0) × (count_by (crosses_outward s) ms ≡ 0)
outside_none n inner Leads.stays s out = grind arith
outside_none n inner (Leads.goes {m = m} {ms = ms} legal rest) s out = grind (arith, outside_none n inner rest s out)

module _ (n : ℕ) (inner wagons berths : List ℕ) (even : Even n inner wagons berths) where
  -- outward crossings make up for what is missing below a section
  pub filling_crosses : (ms : List Move) → Fills n inner wagons berths ms → (s : ℕ)
      → under n inner berths s + count_by (crosses_inward s) ms ≡ under n inner wagons s + count_by (crosses_outward s) ms
  filling_crosses ms fills s = grind (arith, crossings_balance n inner even.tree even.long fills.leads s, filled_under n inner fills.end berths fills.filled, total_led n inner even.tree even.long fills.leads)

  module _ (ms : List Move) (end : List ℕ) (due : Stepping n inner berths wagons ms end) where
    done : FillsInFigure n inner wagons berths ms end
    done = stepping_fills n inner wagons berths ms end even due

    pub due_fill : Fills n inner wagons berths ms
    due_fill = grind (arith, done)

    -- the moves due cross each section as often as its demand says
    due_crosses : (k : ℕ) → k < n - 1 → nat_abs (demand_of n inner wagons berths (k + 1)) ≡ all_crossed ms k
    unfolding figure_of all_crossed
    due_crosses = grind (arith, filling_crosses ms due_fill, all_crossed_most ms (n - 1), sum_below (λ k. nat_abs (demand_of n inner wagons berths (k + 1))) (all_crossed ms) (n - 1), done, squeezed (λ k. nat_abs (demand_of n inner wagons berths (k + 1))) (all_crossed ms) (n - 1))

    pub due_is_sparing : (others : List Move) → Fills n inner wagons berths others → (s : ℕ)
        → (count_by (crosses_inward s) ms ≤ count_by (crosses_inward s) others)
        × (count_by (crosses_outward s) ms ≤ count_by (crosses_outward s) others)
    unfolding all_crossed
    due_is_sparing others fills s =
        ⊎_elim
        (λ (l : s < n). ⊎_elim
        (λ (z : s < 1). let none = outside_none n inner done.leads s (λ p. omega arith) in (omega arith, omega arith))
        (λ (p : 1 ≤ s).
        let back : s - 1 + 1 ≡ s = omega arith in
        let mine = filling_crosses ms due_fill s in
        let theirs = filling_crosses others fills s in
        let all : nat_abs (demand_of n inner wagons berths s) ≡ count_by (crosses_inward s) ms + count_by (crosses_outward s) ms =
        rw back at (due_crosses (s - 1) (omega arith)) in
        (omega (arith, ints), omega (arith, ints)))
        (cases_lt s 1))
        (λ (g : n ≤ s). let none = outside_none n inner done.leads s (λ p. g) in (omega arith, omega arith))
        (cases_lt s n)
