-- The number of a standing.
-- A standing has a byte for each of its 1 to 64 sections: 1 where a wagon stands, and 0 elsewhere.
-- With wagons in sections c1 < c2 < .. < ck its number is C(c1, 1) + C(c2, 2) + .. + C(ck, k), where C(c, i) is choose c i.
use Rattle.std.specs.Prelude.{ℕ, ◌+◌, Bool, true, false, cond, ◌||◌, List, [], ◌∷◌, length, Some, None, Ok, Err, Option, Result, ◌==◌, nat_lt}
use Rattle.refusal.specs.declared.Refusal.{Refusal}
use Rattle.refusal.specs.declared.Refusal.TheVariants.{SizeOutOfRange, MarkTooLarge}
use Rattle.standing.specs.declared.number.Numbered.{Numbered}
use Rattle.standing.specs.Choose.{choose}

-- the sections where wagons stand, the lowest first, among bytes that begin at section c
unfoldable pub wagons_from : ℕ → List ℕ → List ℕ
wagons_from c [] = []
wagons_from c (b ∷ bs) = elim (b == 1) [ true ↦ c ∷ wagons_from (c + 1) bs | false ↦ wagons_from (c + 1) bs ]

abbrev pub wagon_sections : List ℕ → List ℕ
wagon_sections s = wagons_from 0 s

-- the sum of C(c, i) over sections c, with i for the first, i + 1 for the second and so on
unfoldable pub sum_from : ℕ → List ℕ → ℕ
sum_from i [] = 0
sum_from i (c ∷ cs) = choose c i + sum_from (i + 1) cs

-- how many wagons there are, and the number
abbrev pub numbered : List ℕ → Numbered
numbered s = record { wagons = length (wagon_sections s); number = sum_from 1 (wagon_sections s) }

abbrev pub most_sections : ℕ
most_sections = 64

-- no standing has so many sections
abbrev pub out_of_range : ℕ → Bool
out_of_range n = n == 0 || nat_lt most_sections n

-- the lowest section whose byte is above 1, among bytes that begin at section c
unfoldable pub fault_from : ℕ → List ℕ → Option ℕ
fault_from c [] = None
fault_from c (b ∷ bs) = elim (nat_lt 1 b) [ true ↦ Some c | false ↦ fault_from (c + 1) bs ]

abbrev pub unless_at_fault : Option ℕ → Numbered → Result Numbered Refusal
unless_at_fault (Some c) answer = Err (MarkTooLarge c)
unless_at_fault None answer = Ok answer

-- what is answered for any bytes: the wagons and the number, or the first refusal that applies
abbrev pub number_of : List ℕ → Result Numbered Refusal
number_of s = cond (out_of_range (length s)) (Err SizeOutOfRange) (unless_at_fault (fault_from 0 s) (numbered s))
