-- The number and the place of each refusal.
use Rattle.std.specs.Prelude.{ℕ, List, ◌++◌, codes, decimal}
use Rattle.refusal.specs.declared.Refusal.{Refusal}
use Rattle.refusal.specs.declared.Refusal.TheVariants.{SheetLength, SizeOutOfRange, InnerNotLower, MarkTooLarge, WagonsMiscounted, NoSection, AlreadyThere, NotThere, NotNeighbours, NumbersDiffer, PageFull, OutOfRoom, BerthEmpty, NoStanding, BadLine, LengthTooLarge}

abbrev pub number_of : Refusal → ℕ
number_of SheetLength = 1
number_of SizeOutOfRange = 2
number_of (InnerNotLower p) = 3
number_of (MarkTooLarge p) = 4
number_of WagonsMiscounted = 5
number_of (NoSection p) = 6
number_of (AlreadyThere p) = 7
number_of (NotThere p) = 8
number_of (NotNeighbours p) = 9
number_of NumbersDiffer = 10
number_of PageFull = 11
number_of OutOfRoom = 12
number_of (BerthEmpty p) = 13
number_of NoStanding = 14
number_of BadLine = 15
number_of (LengthTooLarge p) = 16

-- 0 where the refusal names no place
abbrev pub place_of : Refusal → ℕ
place_of SheetLength = 0
place_of SizeOutOfRange = 0
place_of (InnerNotLower p) = p
place_of (MarkTooLarge p) = p
place_of WagonsMiscounted = 0
place_of (NoSection p) = p
place_of (AlreadyThere p) = p
place_of (NotThere p) = p
place_of (NotNeighbours p) = p
place_of NumbersDiffer = 0
place_of PageFull = 0
place_of OutOfRoom = 0
place_of (BerthEmpty p) = p
place_of NoStanding = 0
place_of BadLine = 0
place_of (LengthTooLarge p) = p

-- the same refusal, at another place where it names one
abbrev pub at_place : Refusal → ℕ → Refusal
at_place SheetLength q = SheetLength
at_place SizeOutOfRange q = SizeOutOfRange
at_place (InnerNotLower p) q = InnerNotLower q
at_place (MarkTooLarge p) q = MarkTooLarge q
at_place WagonsMiscounted q = WagonsMiscounted
at_place (NoSection p) q = NoSection q
at_place (AlreadyThere p) q = AlreadyThere q
at_place (NotThere p) q = NotThere q
at_place (NotNeighbours p) q = NotNeighbours q
at_place NumbersDiffer q = NumbersDiffer
at_place PageFull q = PageFull
at_place OutOfRoom q = OutOfRoom
at_place (BerthEmpty p) q = BerthEmpty q
at_place NoStanding q = NoStanding
at_place BadLine q = BadLine
at_place (LengthTooLarge p) q = LengthTooLarge q

-- what is printed of a refusal: its number, a blank, its place
abbrev pub shown_of : Refusal → List ℕ
shown_of r = decimal (number_of r) ++ (codes " " ++ decimal (place_of r))
