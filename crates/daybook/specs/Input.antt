-- A day's input: a siding's sheet and, directly after it, lines.
use Rattle.std.specs.Prelude.{ℕ, Bool, true, false, List, [], ◌∷◌, take, drop, ◌==◌}
use Rattle.siding.specs.Sheet.{sections_of, sheet_size}

-- the most bytes that an input may have
abbrev pub most_bytes : ℕ
most_bytes = 65536

-- the sheet: as many bytes as its first two say, or all where there are fewer; one of the two that is missing
-- counts as 0, and then the input is shorter than any sheet
abbrev pub sheet_bytes : List ℕ → List ℕ
sheet_bytes input = take (sheet_size (sections_of input)) input

abbrev pub after_sheet : List ℕ → List ℕ
after_sheet input = drop (sheet_size (sections_of input)) input

-- the byte that ends a line
abbrev pub line_end : ℕ
line_end = 10

-- a byte put before lines: a line of its own where it ends one or none follows, else the start of the first
abbrev pub before_lines : Bool → ℕ → List (List ℕ) → List (List ℕ)
before_lines true b lines = (b ∷ []) ∷ lines
before_lines false b [] = (b ∷ []) ∷ []
before_lines false b (line ∷ lines) = (b ∷ line) ∷ lines

-- bytes cut into lines, after each byte that ends one; the last line may lack it
unfoldable pub cut : List ℕ → List (List ℕ)
cut [] = []
cut (b ∷ bs) = before_lines (b == line_end) b (cut bs)

abbrev pub lines_of : List ℕ → List (List ℕ)
lines_of input = cut (after_sheet input)
