-- What the parts of the balancing recursion do: they make moves, and write them down.
use Rattle.std.specs.Prelude.{ℕ, ◌+◌, ◌<◌, ◌≤◌, List, length}
use Rattle.motion.specs.declared.moves.Move.{Move}
use Rattle.motion.specs.declared.ways.Way.{Way}
use Rattle.motion.specs.Demand.{figure_of}
use Rattle.motion.specs.Visit.{Before, Unsettled}
use Rattle.motion.specs.Due.{LowestAsking}
use Rattle.motion.specs.Stepping.{Shifts, Turns, Task, Balancing}
use Rattle.siding.specs.declared.siding.Siding.{Siding}
use Rattle.lists.specs.declared.book.Book.{Book}
use Rattle.lists.specs.Writing.{Writer, Wrote}

-- moves were made and written: `Does` says which moves, and where they leave the wagons
pub record Made {W E : Type 0} (writer : Writer W E) (Does : List Move → List ℕ → Type 0) (before : Book W E) (wagons : List ℕ) (after : Book W E) : Type 0 where
  pub moves : List Move
  pub does : Does moves wagons
  pub wrote : Wrote writer before moves after

-- the balancing recursion on a siding, from these wagons on
abbrev pub ShiftsAt : Siding → Way → List ℕ → ℕ → ℕ → List Move → List ℕ → Type 0
ShiftsAt x way wagons u v = Shifts way x.track.sections x.track.inner x.berths.in_section wagons u v

abbrev pub TurnsAt : Siding → List ℕ → ℕ → List Move → List ℕ → Type 0
TurnsAt x wagons u = Turns x.track.sections x.track.inner x.berths.in_section wagons u

abbrev pub BalancingAt : Siding → List ℕ → Task → List Move → List ℕ → Type 0
BalancingAt x wagons task = Balancing x.track.sections x.track.inner x.berths.in_section wagons task

-- v is the lowest branch of u that asks, with these wagons
abbrev pub LowestAt : Siding → Way → List ℕ → ℕ → ℕ → Type 0
LowestAt x way wagons u v = LowestAsking way x.track.sections x.track.inner wagons x.berths.in_section u v

-- the figure with these wagons
abbrev pub figure_at : Siding → List ℕ → ℕ
figure_at x wagons = figure_of x.track.sections x.track.inner wagons x.berths.in_section

-- the list of a book has room for as many entries as that
abbrev pub HasRoom : {W E : Type 0} → Siding → List ℕ → Book W E → Type 0
HasRoom x wagons b = b.list.now.len + figure_at x wagons ≤ length b.list.now.slots.now

-- no section that is visited before u is unsettled
abbrev pub SettledBefore : Siding → List ℕ → ℕ → Type 0
SettledBefore x wagons u = (t : ℕ) → t < x.track.sections → Before x.track.sections x.track.inner t u → Unsettled x.track.sections x.track.inner wagons x.berths.in_section t → ⊥
