-- The demand of a section, and the figure of a siding.
-- `wagons` and `berths` have, for each section, how many wagons it holds and how many are wanted there.
use Rattle.std.specs.Prelude.{◌≡◌, ℕ, ◌+◌, ◌-◌, ◌<◌, ◌≤◌, true, cond, List, ℤ, pos, ◌-ℤ◌, slice_index, unsigned_abs}
use Rattle.motion.specs.Tree.{Tree, Below, is_below, is_branch, sum_to, under}

-- the number of berths below s less the number of wagons below s
abbrev pub demand_of : ℕ → List ℕ → List ℕ → List ℕ → ℕ → ℤ
demand_of n inner wagons berths s = pos (under n inner berths s) -ℤ pos (under n inner wagons s)

-- the sum of the demands without their signs, over all sections but the neck
unfoldable pub figure_of : ℕ → List ℕ → List ℕ → List ℕ → ℕ
figure_of n inner wagons berths = sum_to (λ k. unsigned_abs (demand_of n inner wagons berths (k + 1))) (n - 1)

-- at most one to a section
abbrev pub Single : ℕ → List ℕ → Type 0
Single n xs = (s : ℕ) → s < n → slice_index xs s ≤ 1

-- the test of what lies below says what it should
abbrev pub BelowIsTested : Type 0
BelowIsTested =
    (n : ℕ) (inner : List ℕ) → Tree n inner → (s t : ℕ) → t < n
    → (Below inner s t → is_below inner s t ≡ true) × (is_below inner s t ≡ true → Below inner s t)

-- the sum below a section is its own entry plus the sums below its branches
abbrev pub SumBelowSplits : Type 0
SumBelowSplits =
    (n : ℕ) (inner xs : List ℕ) → Tree n inner → (s : ℕ) → s < n
    → under n inner xs s ≡ slice_index xs s + sum_to (λ c. cond (is_branch inner s c) (under n inner xs c) 0) n

-- with at most 512 sections no demand is larger than so much, sign or no sign
abbrev pub DemandsWithin : ℕ → Type 0
DemandsWithin most =
    (n : ℕ) (inner wagons berths : List ℕ) → n ≤ 512 → Single n wagons → Single n berths
    → (s : ℕ) → unsigned_abs (demand_of n inner wagons berths s) ≤ most

-- with at most 512 sections no figure is larger than so much
abbrev pub FiguresWithin : ℕ → Type 0
FiguresWithin most =
    (n : ℕ) (inner wagons berths : List ℕ) → n ≤ 512 → Single n wagons → Single n berths
    → figure_of n inner wagons berths ≤ most
