-- The sheet of a siding, byte by byte. All numbers have the high byte first.
--   bytes 0 and 1   n, the number of sections
--   bytes 2 and 3   the number of wagons
--   next 2n bytes   the inner neighbour of each section, 2 bytes each; 0 for the neck
--   next n bytes    the mark of each section: 1 for a wagon, plus 2 for a berth
use Rattle.std.specs.Prelude.{◌≡◌, ℕ, zero, suc, ◌+◌, ◌*◌, ◌/◌, ◌%◌, ◌≤◌, Bool, cond, not, ◌||◌, List, [], ◌∷◌, ◌++◌, map, length, take, drop, Some, None, Ok, Err, Option, Result, ◌==◌, nat_le, nat_lt, slice_index}
use Rattle.std.specs.List.{range_with_len, flat_map}
use Rattle.refusal.specs.declared.Refusal.{Refusal}
use Rattle.refusal.specs.declared.Refusal.TheVariants.{SheetLength, SizeOutOfRange, InnerNotLower, MarkTooLarge, WagonsMiscounted}
use Rattle.motion.specs.Tree.{total}
use Rattle.motion.specs.State.{State, page_begun}

-- how many bytes the sheet of n sections has
abbrev pub sheet_size : ℕ → ℕ
sheet_size n = 4 + 3 * n

-- the number that stands in two bytes
abbrev pub word : List ℕ → ℕ → ℕ
word bytes at = 256 * slice_index bytes at + slice_index bytes (at + 1)

abbrev pub sections_of : List ℕ → ℕ
sections_of bytes = word bytes 0

abbrev pub wagons_stated : List ℕ → ℕ
wagons_stated bytes = word bytes 2

abbrev pub inner_of : List ℕ → ℕ → ℕ
inner_of bytes s = word bytes (4 + 2 * s)

abbrev pub mark_of : List ℕ → ℕ → ℕ
mark_of bytes s = slice_index bytes (4 + 2 * sections_of bytes + s)

-- the neck's entry is not 0, or another section's is not lower than the section
abbrev pub inner_at_fault : List ℕ → ℕ → Bool
inner_at_fault bytes s = cond (s == 0) (not (inner_of bytes s == 0)) (nat_le s (inner_of bytes s))

abbrev pub mark_at_fault : List ℕ → ℕ → Bool
mark_at_fault bytes s = nat_lt 3 (mark_of bytes s)

abbrev pub first_found : Option ℕ → Option ℕ → Option ℕ
first_found (Some s) other = Some s
first_found None other = other

-- the lowest number below n that a test finds
unfoldable pub lowest : (ℕ → Bool) → ℕ → Option ℕ
lowest test zero = None
lowest test (suc k) = first_found (lowest test k) (cond (test k) (Some k) None)

-- 512 slots: an entry for each of n sections, and then 0
unfoldable pub slots : ℕ → (ℕ → ℕ) → List ℕ
slots n entry = map (λ s. cond (nat_lt s n) (entry s) 0) (range_with_len 0 512)

-- the siding that the entries and marks of a sheet describe, with a page just begun
abbrev pub described : List ℕ → State
described bytes = page_begun (record {
  sections = sections_of bytes;
  inner = slots (sections_of bytes) (inner_of bytes);
  wagons = slots (sections_of bytes) (λ s. mark_of bytes s % 2);
  berths = slots (sections_of bytes) (λ s. mark_of bytes s / 2);
  head = 0;
  moves = 0;
  away = 0;
})

-- refused with the section that is at fault, if there is one
abbrev pub unless_at_fault : Option ℕ → (ℕ → Refusal) → Result State Refusal → Result State Refusal
unless_at_fault (Some s) why rest = Err (why s)
unless_at_fault None why rest = rest

-- what drawing up makes of a sheet: a siding, or the first refusal that applies
unfoldable pub drawn : List ℕ → Result State Refusal
drawn bytes =
    cond (nat_lt (length bytes) 4) (Err SheetLength)
    (cond (sections_of bytes == 0 || nat_lt 512 (sections_of bytes)) (Err SizeOutOfRange)
    (cond (not (length bytes == sheet_size (sections_of bytes))) (Err SheetLength)
    (unless_at_fault (lowest (inner_at_fault bytes) (sections_of bytes)) InnerNotLower
    (unless_at_fault (lowest (mark_at_fault bytes) (sections_of bytes)) MarkTooLarge
    (cond (wagons_stated bytes == total (sections_of bytes) (described bytes).wagons)
    (Ok (described bytes))
    (Err WagonsMiscounted))))))

-- a sheet of a size that a siding has
pub record Sized (bytes : List ℕ) (n : ℕ) : Type 0 where
  pub sections : n ≡ sections_of bytes
  pub some : 1 ≤ n
  pub most : n ≤ 512
  pub size : length bytes ≡ sheet_size n

-- a sheet in which no section is at fault
pub record Faultless (bytes : List ℕ) (n : ℕ) : Type 0 where
  pub sized : Sized bytes n
  pub inner_right : lowest (inner_at_fault bytes) n ≡ None
  pub marks_right : lowest (mark_at_fault bytes) n ≡ None

-- the two bytes of a number
abbrev pub two_bytes : ℕ → List ℕ
two_bytes v = v / 256 ∷ v % 256 ∷ []

-- 1 for a wagon, plus 2 for a berth
abbrev pub mark : State → ℕ → ℕ
mark x s = slice_index x.wagons s + 2 * slice_index x.berths s

-- the sheet of a siding
unfoldable pub sheet_of : State → List ℕ
sheet_of x =
    two_bytes x.sections
    ++ (two_bytes (total x.sections x.wagons)
    ++ (flat_map (λ s. two_bytes (slice_index x.inner s)) (range_with_len 0 x.sections)
    ++ map (mark x) (range_with_len 0 x.sections)))

-- a buffer after bytes are written into it, from a place on
unfoldable pub overwritten : List ℕ → ℕ → List ℕ → List ℕ
overwritten buffer at bytes = take at buffer ++ (bytes ++ drop (at + length bytes) buffer)
