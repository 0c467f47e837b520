use Rattle.std.proofs.Common.{◌-◌}
use Rattle.siding.proofs.siding.Siding.+first_move.Given as goal

abbrev pub decreases-first_move : goal.decreases-first_move
decreases-first_move l = l.self.now.track.sections - l.u
