-- A line: how each act is written, and the act that a line says.
use Rattle.std.specs.Prelude.{◌≡◌, ℕ, ◌+◌, ◌-◌, ◌*◌, ◌≤◌, Bool, if◌then◌else◌, ◌&&◌, List, [], ◌∷◌, ◌++◌, length, Some, None, codes, decimal, Option, ◌==◌, ◌≢◌, nat_lt, slice_index}
use Prim.Native.String.{String}
use Rattle.std.specs.Option.{option_map}
use Rattle.std.specs.Bool.{then_some}
use Rattle.std.specs.Char.{is_ascii_digit}
use Rattle.motion.specs.declared.moves.Move.{Move}
use Rattle.motion.specs.declared.calls.Act.{Act}
use Rattle.motion.specs.declared.calls.Act.TheVariants.{Call as Called, Step}
use Rattle.motion.specs.declared.calls.Call.TheVariants.{Put, Take, Mark, Unmark, Hand, Turn}
use Rattle.daybook.specs.Input.{line_end}

-- the line that an act is written as
abbrev pub written : Act → List ℕ
written (Called (Put s)) = codes "p " ++ (decimal s ++ codes "\n")
written (Called (Take s)) = codes "t " ++ (decimal s ++ codes "\n")
written (Called (Mark s)) = codes "b " ++ (decimal s ++ codes "\n")
written (Called (Unmark s)) = codes "u " ++ (decimal s ++ codes "\n")
written (Called (Hand m)) = codes "m " ++ (decimal m.from ++ (codes " " ++ (decimal m.to ++ codes "\n")))
written (Called Turn) = codes "n\n"
written Step = codes "s\n"

-- the largest number that a line may have
abbrev pub largest : ℕ
largest = 65535

abbrev pub NumbersFit : Act → Type 0
NumbersFit (Called (Put s)) = s ≤ largest
NumbersFit (Called (Take s)) = s ≤ largest
NumbersFit (Called (Mark s)) = s ≤ largest
NumbersFit (Called (Unmark s)) = s ≤ largest
NumbersFit (Called (Hand m)) = (m.from ≤ largest) × (m.to ≤ largest)
NumbersFit (Called Turn) = Unit {0}
NumbersFit Step = Unit {0}

-- a line says an act where it is what the act is written as, and none where no act is written so
abbrev pub Says : List ℕ → Option Act → Type 0
Says line (Some a) = (line ≡ written a) × NumbersFit a
Says line None = (a : Act) → NumbersFit a → line ≢ written a

-- the byte of a letter, a digit or a blank
abbrev pub byte_of : String → ℕ
byte_of text = slice_index (codes text) 0

abbrev pub digit_worth : ℕ → ℕ
digit_worth d = d - byte_of "0"

-- a number with one digit more
abbrev pub with_digit : ℕ → ℕ → ℕ
with_digit n d = 10 * n + digit_worth d

-- the number that digits make after those that made n, and what follows them; without anything after them they make none
unfoldable pub digits_from : ℕ → List ℕ → Option (ℕ × List ℕ)
digits_from n [] = None
digits_from n (b ∷ bs) =
    if is_ascii_digit b then (if nat_lt largest (with_digit n b) then None else digits_from (with_digit n b) bs) else Some (n, b ∷ bs)

-- the number that begins with this digit, and what follows it; after a 0 it has no more digits
abbrev pub number_from : ℕ → List ℕ → Option (ℕ × List ℕ)
number_from d rest = if d == byte_of "0" then Some (0, rest) else (if is_ascii_digit d then digits_from (digit_worth d) rest else None)

abbrev pub blank : ℕ
blank = byte_of " "

-- the number that follows one blank, and what follows it
abbrev pub number_of : List ℕ → Option (ℕ × List ℕ)
number_of [] = None
number_of (b ∷ []) = None
number_of (b ∷ d ∷ rest) = if b == blank then number_from d rest else None

-- nothing but the end of the line
abbrev pub at_end : List ℕ → Bool
at_end rest = length rest == 1 && slice_index rest 0 == line_end

-- a section, and the end of the line
abbrev pub last_section : Option (ℕ × List ℕ) → Option ℕ
last_section None = None
last_section (Some (s, rest)) = then_some (at_end rest) s

abbrev pub section_of : List ℕ → Option ℕ
section_of rest = last_section (number_of rest)

-- two sections, and the end of the line
abbrev pub two_sections : Option (ℕ × List ℕ) → Option Move
two_sections None = None
two_sections (Some (s, rest)) = option_map (λ to. record { from = s; to = to }) (section_of rest)

abbrev pub move_of : List ℕ → Option Move
move_of rest = two_sections (number_of rest)

-- the act of a letter and what follows it
abbrev pub act_of : ℕ → List ℕ → Option Act
act_of letter rest =
    if letter == byte_of "p" then option_map (λ s. Called (Put s)) (section_of rest)
    else (if letter == byte_of "t" then option_map (λ s. Called (Take s)) (section_of rest)
    else (if letter == byte_of "b" then option_map (λ s. Called (Mark s)) (section_of rest)
    else (if letter == byte_of "u" then option_map (λ s. Called (Unmark s)) (section_of rest)
    else (if letter == byte_of "m" then option_map (λ m. Called (Hand m)) (move_of rest)
    else (if letter == byte_of "n" then then_some (at_end rest) (Called Turn)
    else (if letter == byte_of "s" then then_some (at_end rest) Step else None))))))

-- the act that a line says
abbrev pub line_of : List ℕ → Option Act
line_of [] = None
line_of (letter ∷ rest) = act_of letter rest
