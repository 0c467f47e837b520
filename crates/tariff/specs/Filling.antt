-- Filling the tables of tariffs: all of a table is replaced, or a refusal changes nothing.
use Rattle.std.specs.Prelude.{◌≡◌, ℕ, ◌≤◌, ◌⊎◌, List, length, Ok, Err, Result}
use Rattle.refusal.specs.declared.Refusal.{Refusal}
use Rattle.refusal.specs.declared.Refusal.TheVariants.{SizeOutOfRange, LengthTooLarge}
use Rattle.tariff.specs.Tables.{Holds, TooMany, table_size, AllShort, LowestTooLong}
use Rattle.tariff.specs.declared.metres.Metres.{Metres}
use Rattle.tariff.specs.declared.steepest.Steepest.{Steepest}

-- why lengths are refused: there are too many; or else a section is too long, and the place is the lowest such section
abbrev pub NoLengths : List ℕ → Refusal → Type 0
NoLengths lengths e =
    (TooMany lengths × (e ≡ SizeOutOfRange))
    ⊎ ((length lengths ≤ table_size) × ((s : ℕ) × (LowestTooLong lengths s × (e ≡ LengthTooLarge s))))

abbrev pub LengthsFilled : {U : Type 0} → List ℕ → Metres → Metres → Result U Refusal → Type 0
LengthsFilled lengths before after (Ok u) = (length lengths ≤ table_size) × AllShort lengths × Holds lengths after.lengths
LengthsFilled lengths before after (Err e) = NoLengths lengths e × (after ≡ before)

-- both grades are filled, or one of the lists is too long, and neither is
abbrev pub GradesFilled : {U : Type 0} → List ℕ → List ℕ → Steepest → Steepest → Result U Refusal → Type 0
GradesFilled inward outward before after (Ok u) =
    (length inward ≤ table_size) × (length outward ≤ table_size) × Holds inward after.inward × Holds outward after.outward
GradesFilled inward outward before after (Err e) =
    (TooMany inward ⊎ TooMany outward) × (e ≡ SizeOutOfRange) × (after ≡ before)
