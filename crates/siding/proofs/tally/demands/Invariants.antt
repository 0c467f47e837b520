use Rattle.std.proofs.Common.{◌≡◌, length}
use Rattle.siding.specs.Kept.{ClearDemands}
use Rattle.siding.proofs.Demands.{Gathered}
use Rattle.siding.proofs.tally.demands.Given as goal

abbrev pub invariant-loop-s : goal.invariant-loop-s
invariant-loop-s l =
    (length l.demand ≡ 512)
    × Gathered l.s l.track.sections l.track.inner l.wagons.in_section l.berths.in_section l.demand
    × ClearDemands l.track.sections l.demand
