use Rattle.std.proofs.Common.{◌-◌}
use Rattle.lists.proofs.planner.Planner.+shift.Given as goal

abbrev pub decreases-shift : goal.decreases-shift
decreases-shift g l = l.self.now.siding.now.track.sections - l.v
