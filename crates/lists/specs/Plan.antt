-- What the plan and the bill write into a list.
use Rattle.std.specs.Prelude.{◌≡◌, ℕ, ◌<◌, ◌≤◌, ◌⊎◌, List, ◌++◌, length, drop, Ok, Err, Result}
use Rattle.refusal.specs.declared.Refusal.{Refusal}
use Rattle.refusal.specs.declared.Refusal.TheVariants.{NumbersDiffer, OutOfRoom}
use Rattle.motion.specs.declared.moves.Move.{Move}
use Rattle.motion.specs.State.{State, figure, EqualNumbers}
use Rattle.quoting.specs.Quote.{MovesDue}
use Rattle.lists.specs.declared.list.List.{List as Slots}

-- the list holds just these entries, and the slots past them are as they were
pub record Written {E : Type 0} (es : List E) (before after : Slots E) : Type 0 where
  pub len : after.len ≡ length es
  pub slots : after.slots.now ≡ es ++ drop (length es) before.slots.now

-- why nothing is written: wagons and berths differ in number; or else the whole slice is shorter than the figure
abbrev pub NotWritten : {E : Type 0} → State → Slots E → Refusal → Type 0
NotWritten x list e =
    ((EqualNumbers x → ⊥) × (e ≡ NumbersDiffer))
    ⊎ (EqualNumbers x × (length list.slots.now < figure x) × (e ≡ OutOfRoom))

-- the list has the entries of the moves due and no others; there are as many as the figure says, and that is the answer
pub record DueWritten {E : Type 0} (x : State) (entries : List Move → List E) (before after : Slots E) (answer : ℕ) : Type 0 where
  pub equal : EqualNumbers x
  pub room : figure x ≤ length before.slots.now
  pub moves : List Move
  pub due : MovesDue x moves
  pub count : length moves ≡ figure x
  pub answers : answer ≡ length moves
  pub written : Written (entries moves) before after

-- one of the two, and a refusal leaves the list as it was
abbrev pub WritesDue : {E : Type 0} → State → (List Move → List E) → Slots E → Slots E → Result ℕ Refusal → Type 0
WritesDue x entries before after (Ok answer) = DueWritten x entries before after answer
WritesDue x entries before after (Err e) = NotWritten x before e × (after ≡ before)

-- the plan: its entries are the moves due
abbrev pub Planned : State → Slots Move → Slots Move → Result ℕ Refusal → Type 0
Planned x before after r = WritesDue x (λ ms. ms) before after r
