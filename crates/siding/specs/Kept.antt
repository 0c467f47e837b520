-- What every siding keeps of its arrays. Each has 512 slots; those past the sections hold 0.
use Rattle.std.specs.Prelude.{◌≡◌, ℕ, ◌+◌, ◌-◌, ◌<◌, ◌≤◌, List, ℤ, pos, slice_index, slice_index_or, unsigned_abs}
use Rattle.motion.specs.Tree.{Branch, Sisters, sum_to}
use Rattle.motion.specs.Demand.{demand_of}

-- past the sections
abbrev pub Clear : ℕ → List ℕ → Type 0
Clear n xs = (s : ℕ) → n ≤ s → slice_index xs s ≡ 0

-- the stored demands are the demands
abbrev pub TrueDemands : ℕ → List ℕ → List ℕ → List ℕ → List ℤ → Type 0
TrueDemands n inner wagons berths demand = (s : ℕ) → s < n → slice_index_or demand s (pos 0) ≡ demand_of n inner wagons berths s

abbrev pub ClearDemands : ℕ → List ℤ → Type 0
ClearDemands n demand = (s : ℕ) → n ≤ s → slice_index_or demand s (pos 0) ≡ pos 0

-- `first` has the lowest branch of each section: it is at most each of them, and is one of them unless it is 0
abbrev pub FirstIsLowest : ℕ → List ℕ → List ℕ → Type 0
FirstIsLowest n inner first = (u c : ℕ) → Branch n inner u c → (0 < slice_index first u) × (slice_index first u ≤ c)

abbrev pub FirstIsBranch : ℕ → List ℕ → List ℕ → Type 0
FirstIsBranch n inner first = (u : ℕ) → 0 < slice_index first u → (slice_index first u < n) × (slice_index inner (slice_index first u) ≡ u)

-- `next` has, for each branch, the next higher branch of the same section: it is at most each higher one, and is one of them unless it is 0
abbrev pub NextIsLowest : ℕ → List ℕ → List ℕ → Type 0
NextIsLowest n inner next = (b c : ℕ) → Sisters n inner b c → (0 < slice_index next b) × (slice_index next b ≤ c)

abbrev pub NextIsBranch : ℕ → List ℕ → List ℕ → Type 0
NextIsBranch n inner next =
    (b : ℕ) → 0 < slice_index next b → (0 < b) × (b < slice_index next b) × (slice_index next b < n) × (slice_index inner (slice_index next b) ≡ slice_index inner b)

-- the sum of stored demands without their signs, over all sections but the neck
unfoldable pub sizes : ℕ → List ℤ → ℕ
sizes n demand = sum_to (λ k. unsigned_abs (slice_index_or demand (k + 1) (pos 0))) (n - 1)
