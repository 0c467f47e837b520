use Rattle.std.proofs.Common.{◌≡◌, ◌-◌}
use Rattle.siding.specs.Branches.{row}
use Rattle.lists.specs.Balanced.{HasRoom}
use Rattle.lists.proofs.Rows.{Row}
use Rattle.lists.proofs.planner.Planner.+balance.Given as goal

abbrev pub decreases-balance : goal.decreases-balance
decreases-balance g l = l.self.now.siding.now.track.sections - l.u

abbrev pub invariant-loop-branch : goal.invariant-loop-branch
invariant-loop-branch g l = record {
  siding : l.self.siding.now ≡ l.fn.self.siding.now;
  row : Row g.W.EachMove.writer l.fn.self.siding.now l.u (row l.branch-iterator) l.initial.self.wagons l.initial.book l.self.wagons l.book;
  room : HasRoom l.fn.self.siding.now l.self.wagons l.book;
}
