-- The first line of a day's answer: what was drawn up from the input's sheet.
use Rattle.std.specs.Prelude.{ℕ, if◌then◌else◌, List, ◌++◌, length, Ok, Err, codes, decimal, Result, nat_lt}
use Rattle.refusal.specs.Number.{shown_of}
use Rattle.refusal.specs.declared.Refusal.{Refusal}
use Rattle.refusal.specs.declared.Refusal.TheVariants.{OutOfRoom}
use Rattle.motion.specs.State.{State, figure}
use Rattle.motion.specs.Tree.{total}
use Rattle.siding.specs.Sheet.{drawn}
use Rattle.daybook.specs.Input.{most_bytes, sheet_bytes}
use Rattle.daybook.specs.declared.opening.Drawn.{Drawn}

-- the siding that an input begins with, or why there is none
abbrev pub drawn_from : List ℕ → Result State Refusal
drawn_from input = if nat_lt most_bytes (length input) then Err OutOfRoom else drawn (sheet_bytes input)

abbrev pub opened : Result State Refusal → Result Drawn Refusal
opened (Ok x) = Ok (record { sections = x.sections; wagons = total x.sections x.wagons; figure = figure x })
opened (Err e) = Err e

abbrev pub opening_of : List ℕ → Result Drawn Refusal
opening_of input = opened (drawn_from input)

abbrev pub drawn_shown : Drawn → List ℕ
drawn_shown x = decimal x.sections ++ (codes " " ++ (decimal x.wagons ++ (codes " " ++ decimal x.figure)))

abbrev pub opening_shown : Result Drawn Refusal → List ℕ
opening_shown (Ok x) = drawn_shown x
opening_shown (Err e) = codes "no " ++ shown_of e
