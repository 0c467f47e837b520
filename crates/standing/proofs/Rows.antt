-- The triangle by its rule, row after row, and that C(c, i) stands at place i of row c.
use Rattle.std.proofs.Common.{◌≡◌, ℕ, zero, suc, ◌+◌, ◌*◌, ◌/◌, ◌<◌, ◌≤◌, List, [], ◌∷◌, ◌++◌, length, get_or, sym, refl, ap, not-suc-le-zero, add-zero, arith}
use Rattle.std.proofs.lemmas.List.{get_or_append_left, get_or-append-add}
use Rattle.standing.specs.Choose.{choose}

-- the row below a row: each entry is the sum of the two above it, with p before the first of them and 0 after the last
abbrev below : ℕ → List ℕ → List ℕ
below p [] = p ∷ []
below p (x ∷ xs) = (p + x) ∷ below x xs

-- n rows one after the other, from a row on
abbrev rows : ℕ → List ℕ → List ℕ
rows zero row = []
rows (suc n) row = row ++ rows n (below 0 row)

-- the 65 rows, from the one that has only its rim
abbrev pub triangle : List ℕ
triangle = rows 65 (1 ∷ [])

abbrev row : ℕ → List ℕ
row zero = 1 ∷ []
row (suc c) = below 0 (row c)

length_below : (p : ℕ) (xs : List ℕ) → length (below p xs) ≡ suc (length xs)
length_below p [] = refl
length_below p (x ∷ xs) = ap suc (length_below x xs)

length_row : (c : ℕ) → length (row c) ≡ suc c
length_row zero = refl
length_row (suc c) = grind (arith, length_below, length_row c)

below_first : (p : ℕ) (xs : List ℕ) → get_or (below p xs) 0 0 ≡ p + get_or xs 0 0
below_first p [] = sym (add-zero p)
below_first p (x ∷ xs) = refl

below_later : (p : ℕ) (xs : List ℕ) (i : ℕ) → get_or (below p xs) (suc i) 0 ≡ get_or xs i 0 + get_or xs (suc i) 0
below_later p [] i = refl
below_later p (x ∷ xs) zero = below_first x xs
below_later p (x ∷ xs) (suc i) = below_later x xs i

row_entry : (c i : ℕ) → get_or (row c) i 0 ≡ choose c i
unfolding choose
row_entry zero zero = refl
row_entry zero (suc i) = refl
row_entry (suc c) zero = grind (arith, below_first 0 (row c), row_entry c 0)
row_entry (suc c) (suc i) = grind (arith, below_later, row_entry c i, row_entry c (suc i))

-- how many entries the c rows from row s on have
entries : ℕ → ℕ → ℕ
entries s zero = 0
entries s (suc c) = suc s + entries (suc s) c

entries_twice : (s c : ℕ) → 2 * entries s c ≡ 2 * s * c + c * (c + 1)
unfolding entries
entries_twice s zero = omega arith
entries_twice s (suc c) = grind (arith, entries_twice (suc s) c)

rows_entry : (n s c i : ℕ) → c < n → i ≤ s + c → get_or (rows n (row s)) (entries s c + i) 0 ≡ choose (s + c) i
unfolding entries
rows_entry zero s c i h k = absurd (not-suc-le-zero h)
rows_entry (suc n) s zero i h k = grind (arith, length_row, get_or_append_left, row_entry)
rows_entry (suc n) s (suc c) i h k = grind (arith, length_row, get_or-append-add, rows_entry n (suc s) c i (omega arith) (omega arith))

pub triangle_entry : (c i : ℕ) → c ≤ 64 → i ≤ c → get_or triangle (c * (c + 1) / 2 + i) 0 ≡ choose c i
triangle_entry c i h k = grind (arith, entries_twice 0 c, rows_entry 65 0 c i)
