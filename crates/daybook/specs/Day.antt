-- A day's whole answer.
use Rattle.std.specs.Prelude.{◌≡◌, ℕ, List, [], ◌∷◌, ◌++◌, Ok, Err, Result}
use Rattle.refusal.specs.declared.Refusal.{Refusal}
use Rattle.motion.specs.State.{State}
use Rattle.daybook.specs.declared.answer.Answer.{Answer}
use Rattle.daybook.specs.Input.{line_end, lines_of}
use Rattle.daybook.specs.Line.{line_of}
use Rattle.daybook.specs.Opening.{drawn_from, opening_of, opening_shown}
use Rattle.daybook.specs.Answer.{Answered, answer_shown}

-- a text as a line
abbrev pub ended : List ℕ → List ℕ
ended text = text ++ line_end ∷ []

-- the answers of lines, each on the siding that those before it left
pub data Answers : List (List ℕ) → State → List ℕ → Type 0 where
  none : {x : State} → Answers [] x []
  then : {line : List ℕ} {lines : List (List ℕ)} {x y : State} {rest : List ℕ} (a : Result Answer Refusal) → Answered (line_of line) x y a
      → Answers lines y rest → Answers (line ∷ lines) x (ended (answer_shown a) ++ rest)

-- a line's answer was written after a text
abbrev pub OneMore : List ℕ → State → State → List ℕ → List ℕ → Type 0
OneMore line x y before after = (a : Result Answer Refusal) × Answered (line_of line) x y a × (after ≡ before ++ ended (answer_shown a))

-- the answers of lines were written after a text
abbrev pub More : List (List ℕ) → State → List ℕ → List ℕ → Type 0
More lines x before after = (rest : List ℕ) × Answers lines x rest × (after ≡ before ++ rest)

-- what follows the opening: where no siding was drawn up, nothing
abbrev pub Following : Result State Refusal → List (List ℕ) → List ℕ → List ℕ → Type 0
Following (Ok x) lines opening text = More lines x opening text
Following (Err e) lines opening text = text ≡ opening

-- the whole answer to an input
abbrev pub Day : List ℕ → List ℕ → Type 0
Day input text = Following (drawn_from input) (lines_of input) (ended (opening_shown (opening_of input))) text
