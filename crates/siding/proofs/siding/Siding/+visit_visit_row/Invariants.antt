use Rattle.std.proofs.Common.{ℕ, ◌+◌, ◌-◌, ◌*◌, ◌<◌, length, get_or}
use Rattle.siding.specs.Steps.{CalmBelow}
use Rattle.siding.proofs.siding.Siding.+visit_visit_row.Given as goal

abbrev pub decreases-visit : goal.decreases-visit
decreases-visit l = 2 * (l.self.now.track.sections - l.u) + 1

abbrev pub decreases-visit_row : goal.decreases-visit_row
decreases-visit_row l = 2 * (l.self.now.track.sections - l.u)

-- nothing at or below the branches that came is unsettled
abbrev pub invariant-visit_row-loop-branch : goal.invariant-visit_row-loop-branch
invariant-visit_row-loop-branch l = (k : ℕ) → k < length l.yielded → CalmBelow l.self (get_or l.yielded k 0)
