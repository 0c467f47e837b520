-- The acts that lines say.
use Rattle.std.specs.Prelude.{◌≡◌, ℕ, List, [], ◌∷◌, Some}
use Rattle.refusal.specs.declared.Refusal.TheVariants.{BadLine}
use Rattle.motion.specs.declared.calls.Act.{Act}
use Rattle.daybook.specs.declared.acts.Unread.{Unread}
use Rattle.daybook.specs.declared.acts.Unread.TheVariants.{Refused, OutOfMemory}
use Rattle.daybook.specs.Line.{line_of}

-- each line says the act in its place
pub data Say : List (List ℕ) → List Act → Type 0 where
  none : Say [] []
  then : {line : List ℕ} {lines : List (List ℕ)} {act : Act} {acts : List Act} → line_of line ≡ Some act → Say lines acts → Say (line ∷ lines) (act ∷ acts)

-- some line says none
abbrev pub NoActs : List (List ℕ) → Type 0
NoActs lines = (acts : List Act) → Say lines acts → ⊥

-- why the lines were not read: they are refused as bad just where some line says no act
abbrev pub WhyUnread : List (List ℕ) → Unread → Type 0
WhyUnread lines (Refused e) = (e ≡ BadLine) × NoActs lines
WhyUnread lines (OutOfMemory e) = Unit {0}
