-- The branches of a section in rising order.
use Rattle.std.specs.Prelude.{ℕ, ◌-◌, cond, List, [], ◌==◌, slice_index}
use Rattle.std.specs.List.{range_with_len, filter}
use Rattle.motion.specs.Tree.{is_branch}
use Rattle.siding.specs.declared.track.Track.{Track}
use Rattle.siding.specs.declared.track.branches.Branches.{Branches}

-- the branches of u that are not lower than `from`
abbrev pub branches_past : ℕ → List ℕ → ℕ → ℕ → List ℕ
branches_past n inner u from = filter (is_branch inner u) (range_with_len from (n - from))

-- all branches of u
abbrev pub branches_of : Track → ℕ → List ℕ
branches_of t u = branches_past t.sections t.inner u 0

-- the branch c and the higher ones of the same section; none from the neck on
abbrev pub row_from : Track → ℕ → List ℕ
row_from t c = cond (c == 0) [] (branches_past t.sections t.inner (slice_index t.inner c) c)

-- the branches that are still to come
abbrev pub row : Branches → List ℕ
row b = row_from b.track.now b.at
