use Rattle.std.proofs.Common.{◌≡◌, length}
use Rattle.siding.proofs.Links.{Linked}
use Rattle.siding.proofs.track.Track.laid.Given as goal

abbrev pub invariant-loop-s : goal.invariant-loop-s
invariant-loop-s l = (length l.first ≡ 512) × (length l.next ≡ 512) × Linked l.s l.sections l.inner l.first l.next
