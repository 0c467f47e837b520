-- What is promised of every siding, and of every run.
use Rattle.std.specs.Prelude.{◌≡◌, ℕ, ◌+◌, ◌≤◌, List, ◌∷◌, ◌++◌, length, replicate}
use Rattle.motion.specs.declared.moves.Move.{Move}
use Rattle.motion.specs.declared.calls.Act.{Act}
use Rattle.motion.specs.declared.calls.Act.TheVariants.{Call as Called, Step}
use Rattle.motion.specs.declared.calls.Call.TheVariants.{Hand, Turn}
use Rattle.motion.specs.Moves.{Filled, Fills, Shortest}
use Rattle.motion.specs.Stepping.{Stepping}
use Rattle.motion.specs.State.{State, figure, EqualNumbers}
use Rattle.motion.specs.Calls.{Does, After, Passing, SettledIn}

-- of a siding's lists
abbrev pub FillsFrom : State → List Move → Type 0
FillsFrom x ms = Fills x.sections x.inner x.wagons x.berths ms

abbrev pub ShortestFrom : State → List Move → Type 0
ShortestFrom x ms = Shortest x.sections x.inner x.wagons x.berths ms

-- the moves due are a filling list of just as many moves as the figure says, and no filling list is shorter
pub record Least (x : State) : Type 0 where
  pub moves_due : List Move
  pub end : List ℕ
  pub due : Stepping x.sections x.inner x.berths x.wagons moves_due end
  pub fills : FillsFrom x moves_due
  pub count : length moves_due ≡ figure x
  pub none_shorter : (ms : List Move) → FillsFrom x ms → figure x ≤ length ms

-- stepping on from a turned page, as often as the figure says: no step is refused, since each counts as a move; then
-- no move is due and every berth is filled
pub record SteppedOut (x z : State) : Type 0 where
  pub moves : z.moves ≡ figure x
  pub away : z.away ≡ 0
  pub settled : SettledIn z
  pub filled : Filled z.sections z.wagons z.berths

abbrev pub SteppingOnFills : State → Type 0
SteppingOnFills x = (z : State) → After (Called Turn ∷ replicate (figure x) Step) x z → SteppedOut x z

abbrev pub Exactly : Type 0 → Type 0 → Type 0
Exactly P Q = (P → Q) × (Q → P)

-- of each hand move in a run that is done while the numbers are equal: it counts as away exactly if no shortest filling
-- list from the siding before it begins with it
abbrev pub AwayMeansNoShortest : List Act → State → State → Type 0
AwayMeansNoShortest acts entry exit =
    (before after : List Act) (m : Move) → acts ≡ before ++ (Called (Hand m) ∷ after)
    → (x y : State) → Passing before (Called (Hand m)) after entry x y exit → Does (Hand m) x y → EqualNumbers x
    → Exactly (y.away ≡ x.away + 1) ((ms : List Move) → ShortestFrom x (m ∷ ms) → ⊥)
