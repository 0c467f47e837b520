-- No filling list is shorter than the figure.
use Rattle.std.proofs.lemmas.Grind.{common_steps}
use Rattle.std.proofs.Common.{◌≡◌, ℕ, zero, suc, ◌+◌, ◌-◌, ◌<◌, ◌≤◌, max, Bool, true, false, ◌≢◌, List, [], ◌∷◌, length, get_or, nat_abs, count_by, sym, arith}
use Rattle.motion.specs.declared.moves.Move.{Move}
use Rattle.motion.specs.Tree.{Tree, sum_to, under, total}
use Rattle.motion.specs.Demand.{demand_of, figure_of}
use Rattle.motion.specs.Moves.{Filled, Fills, crosses_inward, crosses_outward, one_if}
use Rattle.motion.proofs.Sums.{sum_same, sum_zero, sum_add, sum_below}
use Rattle.motion.proofs.Crossings.{crossings_balance, total_led}

-- sums are equal and no part is less: the parts are equal
pub squeezed : (f g : ℕ → ℕ) (n : ℕ) → ((t : ℕ) → t < n → f t ≤ g t) → sum_to f n ≡ sum_to g n → (t : ℕ) → t < n → f t ≡ g t
unfolding sum_to
squeezed f g zero le e t l = grind arith
squeezed f g (suc n) le e t l = grind (arith, sum_below, squeezed f g n)

-- filled, with equal numbers: as many wagons as berths below each section
pub filled_under : (n : ℕ) (inner wagons berths : List ℕ) → Filled n wagons berths → total n wagons ≡ total n berths → (s : ℕ) → under n inner wagons s ≡ under n inner berths s
unfolding under
filled_under n inner wagons berths filled equal s = grind (arith, squeezed (λ t. get_or berths t 0) (λ t. get_or wagons t 0) n filled (sym equal), sum_same)

-- what is 0 but at one number, and at most 1 there, adds up to at most 1
one_at_most : (f : ℕ → ℕ) (n i : ℕ) → ((k : ℕ) → k ≢ i → f k ≡ 0) → f i ≤ 1 → sum_to f n ≤ 1
unfolding sum_to
one_at_most f zero i off on = omega arith
one_at_most f (suc n) i off on = grind (arith, sum_zero, one_at_most f n i off on)

one_if_most : (b : Bool) → one_if b ≤ 1
one_if_most true = omega arith
one_if_most false = omega arith

-- how often a move, and a list of moves, crosses the sections but the neck
crossed : Move → ℕ → ℕ
crossed m k = one_if (crosses_inward (k + 1) m) + one_if (crosses_outward (k + 1) m)

unfoldable pub all_crossed : List Move → ℕ → ℕ
all_crossed ms k = count_by (crosses_inward (k + 1)) ms + count_by (crosses_outward (k + 1)) ms

crossed_once : (m : Move) (n : ℕ) → sum_to (crossed m) n ≤ 1
unfolding crossed
crossed_once m n = grind (arith, one_at_most (crossed m) n (max m.from m.to - 1), one_if_most)

pub all_crossed_most : (ms : List Move) (n : ℕ) → sum_to (all_crossed ms) n ≤ length ms
unfolding all_crossed crossed
all_crossed_most [] n = grind (arith, sum_zero)
all_crossed_most (m ∷ ms) n = grind (arith, common_steps, all_crossed_most ms n, crossed_once m n, sum_add)

pub figure_is_a_floor :
    (n : ℕ) (inner wagons berths : List ℕ) → Tree n inner → n ≤ length wagons → total n wagons ≡ total n berths
    → (ms : List Move) → Fills n inner wagons berths ms → figure_of n inner wagons berths ≤ length ms
unfolding figure_of all_crossed
figure_is_a_floor n inner wagons berths tree long equal ms fills = grind (arith, all_crossed_most ms (n - 1), sum_below (λ k. nat_abs (demand_of n inner wagons berths (k + 1))) (all_crossed ms) (n - 1), crossings_balance n inner tree long fills.leads, filled_under n inner fills.end berths fills.filled, total_led n inner tree long fills.leads)
