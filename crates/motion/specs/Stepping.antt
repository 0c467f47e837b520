-- Stepping on, until no move is due, and the balancing recursion.
use Rattle.std.specs.Prelude.{◌≡◌, ℕ, ◌+◌, ◌<◌, ◌≤◌, List, [], ◌∷◌, ◌++◌, length}
use Rattle.motion.specs.declared.moves.Move.{Move}
use Rattle.motion.specs.Tree.{Tree, Branch, total}
use Rattle.motion.specs.Demand.{figure_of, Single}
use Rattle.motion.specs.Moves.{moved, Legal, Leads, Filled}
use Rattle.motion.specs.Visit.{Unsettled, AllSettled}
use Rattle.motion.specs.declared.ways.Way.{Way}
use Rattle.motion.specs.Due.{Ready, Open, over, LowestAsking, Due}

-- the moves due from here on, and where they lead: due moves one after another, until every section is settled
pub data Stepping (n : ℕ) (inner berths : List ℕ) : List ℕ → List Move → List ℕ → Type 0 where
  settled : {wagons : List ℕ} → AllSettled n inner wagons berths → Stepping n inner berths wagons [] wagons
  step : {wagons end : List ℕ} {m : Move} {ms : List Move} → Due n inner wagons berths m → Stepping n inner berths (moved wagons m) ms end
      → Stepping n inner berths wagons (m ∷ ms) end

-- The balancing recursion. A wagon is shifted between u and its branch v: straight, or, where v is not open, after
-- the same between v and its own lowest branch that asks
pub data Shifts (way : Way) (n : ℕ) (inner berths : List ℕ) : List ℕ → ℕ → ℕ → List Move → List ℕ → Type 0 where
  straight : {wagons : List ℕ} {u v : ℕ} → Open way wagons v → Shifts way n inner berths wagons u v (over way u v ∷ []) (moved wagons (over way u v))
  after : {wagons then : List ℕ} {u v x : ℕ} {ms : List Move} → Ready way wagons v → LowestAsking way n inner wagons berths v x
      → Shifts way n inner berths wagons v x ms then
      → Shifts way n inner berths wagons u v (ms ++ over way u v ∷ []) (moved then (over way u v))

-- a section is balanced: while some branch of it has a demand, it passes to or draws from its lowest branch that asks
pub data Turns (n : ℕ) (inner berths : List ℕ) : List ℕ → ℕ → List Move → List ℕ → Type 0 where
  settled : {wagons : List ℕ} {u : ℕ} → (Unsettled n inner wagons berths u → ⊥) → Turns n inner berths wagons u [] wagons
  turn : {way : Way} {wagons then end : List ℕ} {u v : ℕ} {ms ns : List Move} → Ready way wagons u → LowestAsking way n inner wagons berths u v
      → Shifts way n inner berths wagons u v ms then → Turns n inner berths then u ns end → Turns n inner berths wagons u (ms ++ ns) end

-- v is the lowest branch of u from `from` on
pub record Next (n : ℕ) (inner : List ℕ) (u from v : ℕ) : Type 0 where
  pub branch : Branch n inner u v
  pub ahead : from ≤ v
  pub lowest : (k : ℕ) → from ≤ k → k < v → Branch n inner u k → ⊥

-- what is to be balanced: a section with all below it, or its branches from a number on
pub data Task : Type 0 where
  whole : ℕ → Task
  row : ℕ → ℕ → Task

-- first the section, then each branch with all below it, in rising order
pub data Balancing (n : ℕ) (inner berths : List ℕ) : List ℕ → Task → List Move → List ℕ → Type 0 where
  both : {wagons then end : List ℕ} {u : ℕ} {ms ns : List Move} → Turns n inner berths wagons u ms then
      → Balancing n inner berths then (Task.row u (u + 1)) ns end → Balancing n inner berths wagons (Task.whole u) (ms ++ ns) end
  none : {wagons : List ℕ} {u from : ℕ} → ((k : ℕ) → from ≤ k → Branch n inner u k → ⊥) → Balancing n inner berths wagons (Task.row u from) [] wagons
  next : {wagons then end : List ℕ} {u from v : ℕ} {ms ns : List Move} → Next n inner u from v
      → Balancing n inner berths wagons (Task.whole v) ms then → Balancing n inner berths then (Task.row u (v + 1)) ns end
      → Balancing n inner berths wagons (Task.row u from) (ms ++ ns) end

-- a siding with as many wagons as berths
pub record Even (n : ℕ) (inner wagons berths : List ℕ) : Type 0 where
  pub some : 0 < n
  pub tree : Tree n inner
  pub long : n ≤ length wagons
  pub one_wagon : Single n wagons
  pub one_berth : Single n berths
  pub equal : total n wagons ≡ total n berths

-- at most one move is due
abbrev pub OneDue : Type 0
OneDue = (n : ℕ) (inner wagons berths : List ℕ) (a b : Move) → Tree n inner → Due n inner wagons berths a → Due n inner wagons berths b → a ≡ b

-- with equal numbers a move is due exactly while some section is unsettled
abbrev pub DueWhileUnsettled : Type 0
DueWhileUnsettled =
    (n : ℕ) (inner wagons berths : List ℕ) → Even n inner wagons berths
    → ((u : ℕ) → u < n → Unsettled n inner wagons berths u → (m : Move) × Due n inner wagons berths m)
    × ((m : Move) → Due n inner wagons berths m → AllSettled n inner wagons berths → ⊥)

-- it is legal, and lowers the figure by one
abbrev pub DueIsLegal : Type 0
DueIsLegal =
    (n : ℕ) (inner wagons berths : List ℕ) (m : Move) → Even n inner wagons berths → Due n inner wagons berths m
    → Legal n inner wagons m × (figure_of n inner (moved wagons m) berths + 1 ≡ figure_of n inner wagons berths)

-- stepping comes to an end, and has no freedom
abbrev pub SteppingEnds : Type 0
SteppingEnds = (n : ℕ) (inner wagons berths : List ℕ) → Even n inner wagons berths → (ms : List Move) × (end : List ℕ) × Stepping n inner berths wagons ms end

abbrev pub OneStepping : Type 0
OneStepping =
    (n : ℕ) (inner wagons berths : List ℕ) (ms ns : List Move) (end other : List ℕ) → Tree n inner
    → Stepping n inner berths wagons ms end → Stepping n inner berths wagons ns other → (ms ≡ ns) × (end ≡ other)

-- it makes as many moves as the figure says, all legal, and leaves every berth filled
pub record FillsInFigure (n : ℕ) (inner wagons berths : List ℕ) (ms : List Move) (end : List ℕ) : Type 0 where
  pub count : length ms ≡ figure_of n inner wagons berths
  pub leads : Leads n inner wagons ms end
  pub filled : Filled n end berths

abbrev pub SteppingFills : Type 0
SteppingFills =
    (n : ℕ) (inner wagons berths : List ℕ) (ms : List Move) (end : List ℕ) → Even n inner wagons berths
    → Stepping n inner berths wagons ms end → FillsInFigure n inner wagons berths ms end

-- with equal numbers stepping makes exactly the moves of the balancing recursion, in its order
abbrev pub StepsAreThePlan : Type 0
StepsAreThePlan =
    (n : ℕ) (inner wagons berths : List ℕ) (ms : List Move) (end : List ℕ) → Even n inner wagons berths
    → (Stepping n inner berths wagons ms end → Balancing n inner berths wagons (Task.whole 0) ms end)
    × (Balancing n inner berths wagons (Task.whole 0) ms end → Stepping n inner berths wagons ms end)
