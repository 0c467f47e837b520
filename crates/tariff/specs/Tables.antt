-- Tables that are filled from lists.
use Rattle.std.specs.Prelude.{◌≡◌, ℕ, ◌<◌, ◌≤◌, List, length, slice_index}
use Rattle.motion.specs.declared.ways.Way.{Way}
use Rattle.motion.specs.declared.ways.Way.TheVariants.{Inward, Outward}

-- how many sections a table has
abbrev pub table_size : ℕ
table_size = 512

-- a table has the entries of a list, section 0 first, and 0 for sections that the list misses
abbrev pub Holds : List ℕ → List ℕ → Type 0
Holds entries table = (length table ≡ table_size) × ((s : ℕ) → s < table_size → slice_index table s ≡ slice_index entries s)

abbrev pub by_way : {X : Type 0} → X → X → Way → X
by_way inward outward Inward = inward
by_way inward outward Outward = outward

-- no list for a table
abbrev pub TooMany : List ℕ → Type 0
TooMany entries = table_size < length entries

-- the most metres of a section
abbrev pub longest : ℕ
longest = 9999

abbrev pub AllShort : List ℕ → Type 0
AllShort lengths = (s : ℕ) → s < length lengths → slice_index lengths s ≤ longest

-- the lowest section that is too long
pub record LowestTooLong (lengths : List ℕ) (s : ℕ) : Type 0 where
  pub within : s < length lengths
  pub too_long : longest < slice_index lengths s
  pub lowest : (k : ℕ) → k < s → slice_index lengths k ≤ longest
