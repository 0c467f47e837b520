-- The answer of one line.
use Rattle.std.specs.Prelude.{◌≡◌, ℕ, ◌<◌, List, ◌++◌, Some, None, Ok, Err, codes, decimal, Option, Result}
use Rattle.refusal.specs.Number.{number_of}
use Rattle.refusal.specs.declared.Refusal.{Refusal}
use Rattle.refusal.specs.declared.Refusal.TheVariants.{BadLine}
use Rattle.motion.specs.State.{State, figure, EqualNumbers, most_moves}
use Rattle.motion.specs.Calls.{stepped, DueIn, SettledIn}
use Rattle.motion.specs.declared.moves.Move.{Move}
use Rattle.motion.specs.declared.calls.Act.{Act}
use Rattle.motion.specs.declared.calls.Act.TheVariants.{Call as Called, Step}
use Rattle.motion.specs.declared.calls.Call.{Call}
use Rattle.siding.specs.Outcome.{outcome}
use Rattle.siding.specs.Steps.{StepRefused}
use Rattle.daybook.specs.declared.answer.Answer.{Answer}
use Rattle.daybook.specs.declared.answer.Answer.TheVariants.{Done, Moved, Rest}

-- a call on x left y: it is done, and the answer is the figure after it; or it is refused, and nothing has changed
abbrev pub CallAnswered : Call → State → State → Result Answer Refusal → Type 0
CallAnswered c x y (Ok (Done f)) = (outcome c x ≡ Ok y) × (f ≡ figure y)
CallAnswered c x y (Ok (Moved m f)) = ⊥
CallAnswered c x y (Ok (Rest f)) = ⊥
CallAnswered c x y (Err e) = (outcome c x ≡ Err e) × (y ≡ x)

-- the move that is due was made
abbrev pub Made : State → Move → State → Type 0
Made x m y = EqualNumbers x × DueIn x m × (x.moves < most_moves) × (y ≡ stepped x m)

-- no move is due, and nothing has changed
abbrev pub Rested : State → State → Type 0
Rested x y = EqualNumbers x × SettledIn x × (y ≡ x)

-- a step on x left y: the answer is the move and the figure after it, or the figure where none is due, or the refusal
abbrev pub StepAnswered : State → State → Result Answer Refusal → Type 0
StepAnswered x y (Ok (Moved m f)) = Made x m y × (f ≡ figure y)
StepAnswered x y (Ok (Rest f)) = Rested x y × (f ≡ figure y)
StepAnswered x y (Ok (Done f)) = ⊥
StepAnswered x y (Err e) = StepRefused x e × (y ≡ x)

-- what a line says, made on x, left y; a line that says nothing is a bad one, and changes nothing
abbrev pub Answered : Option Act → State → State → Result Answer Refusal → Type 0
Answered None x y a = (a ≡ Err BadLine) × (y ≡ x)
Answered (Some (Called c)) x y a = CallAnswered c x y a
Answered (Some Step) x y a = StepAnswered x y a

abbrev pub done_shown : Answer → List ℕ
done_shown (Done f) = codes "ok " ++ decimal f
done_shown (Moved m f) = decimal m.from ++ (codes " " ++ (decimal m.to ++ (codes " " ++ decimal f)))
done_shown (Rest f) = codes "- " ++ decimal f

-- a refusal goes without its place here
abbrev pub answer_shown : Result Answer Refusal → List ℕ
answer_shown (Ok a) = done_shown a
answer_shown (Err e) = codes "no " ++ decimal (number_of e)
