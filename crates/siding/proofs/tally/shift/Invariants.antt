use Rattle.std.proofs.Common.{◌≡◌, ℕ, ◌<◌, ◌≤◌, length, get_or, pos}
use Rattle.siding.specs.Kept.{sizes}
use Rattle.siding.proofs.Way.{Passed}
use Rattle.siding.proofs.tally.shift.Given as goal

abbrev pub invariant-loop-u : goal.invariant-loop-u
invariant-loop-u l =
    (length l.demand ≡ 512)
    × (l.u < l.track.sections)
    × ((v : ℕ) → v < l.track.sections → Passed l.track.inner l.at l.u l.by l.initial.demand l.demand v)
    × ((v : ℕ) → l.track.sections ≤ v → get_or l.demand v (pos 0) ≡ get_or l.initial.demand v (pos 0))
    × (l.sum ≡ sizes l.track.sections l.demand)

abbrev pub decreases-loop-u : goal.decreases-loop-u
decreases-loop-u l = l.u
