-- What moves do to the demands, and why no list of moves that fills the berths is shorter than the figure.
use Rattle.std.specs.Prelude.{◌≡◌, ℕ, ◌+◌, ◌<◌, ◌≤◌, max, List, length, pos, ◌+ℤ◌, count_by, ◌≢◌}
use Rattle.motion.specs.declared.moves.Move.{Move}
use Rattle.motion.specs.Tree.{Tree, under, total}
use Rattle.motion.specs.Demand.{demand_of, figure_of}
use Rattle.motion.specs.Moves.{moved, Legal, Leads, Fills, crosses_inward, crosses_outward}

-- a legal move changes the demand of the higher of its sections by one: up where it leads inward from there, down
-- where it leads outward to it
pub record OneUpOrDown (n : ℕ) (inner wagons berths : List ℕ) (m : Move) : Type 0 where
  pub inward : m.to < m.from → demand_of n inner (moved wagons m) berths m.from ≡ demand_of n inner wagons berths m.from +ℤ pos 1
  pub outward : m.from < m.to → demand_of n inner (moved wagons m) berths m.to +ℤ pos 1 ≡ demand_of n inner wagons berths m.to
  -- and of no other section
  pub others : (s : ℕ) → (s ≢ max m.from m.to) → demand_of n inner (moved wagons m) berths s ≡ demand_of n inner wagons berths s

abbrev pub OneDemandChanges : Type 0
OneDemandChanges =
    (n : ℕ) (inner wagons berths : List ℕ) (m : Move) → Tree n inner → n ≤ length wagons → Legal n inner wagons m
    → OneUpOrDown n inner wagons berths m

-- the wagons below a section afterwards and the inward crossings, together, are the wagons before and the outward crossings
abbrev pub CrossingsBalance : Type 0
CrossingsBalance =
    (n : ℕ) (inner wagons end : List ℕ) (ms : List Move) → Tree n inner → n ≤ length wagons → Leads n inner wagons ms end
    → (s : ℕ) → under n inner end s + count_by (crosses_inward s) ms ≡ under n inner wagons s + count_by (crosses_outward s) ms

-- with as many wagons as berths, every filling list has at least as many moves as the figure says
abbrev pub NoFillingListIsShorter : ℕ → List ℕ → List ℕ → List ℕ → Type 0
NoFillingListIsShorter n inner wagons berths = (ms : List Move) → Fills n inner wagons berths ms → figure_of n inner wagons berths ≤ length ms

abbrev pub FigureIsAFloor : Type 0
FigureIsAFloor =
    (n : ℕ) (inner wagons berths : List ℕ) → Tree n inner → n ≤ length wagons → total n wagons ≡ total n berths
    → NoFillingListIsShorter n inner wagons berths
