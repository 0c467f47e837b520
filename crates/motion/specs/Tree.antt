-- The tree of a siding's sections, and which sections lie below which.
-- n sections are numbered from 0; section 0 is the neck. A list has an entry for each section, section 0 first:
-- `inner` the inner neighbour. What stands past the n entries plays no part.
use Rattle.std.specs.Prelude.{◌≡◌, ℕ, zero, suc, ◌+◌, ◌<◌, Bool, true, cond, ◌&&◌, List, ◌==◌, nat_lt, slice_index, slice_index_or}

-- every section but the neck hangs on an inner neighbour of a lower number; the neck's entry is 0
pub record Tree (n : ℕ) (inner : List ℕ) : Type 0 where
  pub neck : slice_index_or inner 0 0 ≡ 0
  pub lower : (s : ℕ) → 0 < s → s < n → slice_index inner s < s

-- c is a branch of s: it is not the neck, and hangs on s
pub record Branch (n : ℕ) (inner : List ℕ) (s c : ℕ) : Type 0 where
  pub outer : 0 < c
  pub within : c < n
  pub hangs : slice_index_or inner c 0 ≡ s

-- c is a higher branch of the section that b is a branch of
pub record Sisters (n : ℕ) (inner : List ℕ) (b c : ℕ) : Type 0 where
  pub outer : 0 < b
  pub higher : b < c
  pub within : c < n
  pub together : slice_index_or inner b 0 ≡ slice_index inner c

-- t lies below s: it is s itself, or it is not the neck and its inner neighbour lies below s
pub data Below (inner : List ℕ) (s : ℕ) : ℕ → Type 0 where
  itself : Below inner s s
  farther : {t : ℕ} → 0 < t → Below inner s (slice_index inner t) → Below inner s t

-- the same as a test: s is met on the way inward from t, within so many moves
unfoldable pub met_within : ℕ → List ℕ → ℕ → ℕ → Bool
met_within zero inner s t = s == t
met_within (suc k) inner s t = cond (s == t) true (met_within k inner s (slice_index inner t))

-- from t, t moves inward are enough, since each leads to a lower number
unfoldable pub is_below : List ℕ → ℕ → ℕ → Bool
is_below inner s t = met_within t inner s t

-- whether c is a branch of s
abbrev pub is_branch : List ℕ → ℕ → ℕ → Bool
is_branch inner s c = nat_lt 0 c && slice_index inner c == s

-- f 0 + f 1 + .. + f (n - 1)
unfoldable pub sum_to : (ℕ → ℕ) → ℕ → ℕ
sum_to f zero = 0
sum_to f (suc k) = sum_to f k + f k

-- the sum of the entries of all sections
abbrev pub total : ℕ → List ℕ → ℕ
total n xs = sum_to (λ t. slice_index xs t) n

-- the sum of the entries of the sections below s
unfoldable pub under : ℕ → List ℕ → List ℕ → ℕ → ℕ
under n inner xs s = sum_to (λ t. cond (is_below inner s t) (slice_index xs t) 0) n
