use Rattle.std.proofs.Common.{◌≡◌}
use Rattle.lists.specs.Balanced.{Made, figure_at, HasRoom, SettledBefore}
use Rattle.lists.proofs.Turning.{TurnsOn}
use Rattle.lists.proofs.planner.Planner.settle.Given as goal

abbrev pub invariant-loop-v : goal.invariant-loop-v
invariant-loop-v g l = record {
  siding : l.self.siding.now ≡ l.initial.self.siding.now;
  before : SettledBefore l.initial.self.siding.now l.self.wagons l.u;
  turns : Made g.W.EachMove.writer (TurnsOn l.initial.self.siding.now l.initial.self.wagons l.u) l.initial.book l.self.wagons l.book;
  room : HasRoom l.initial.self.siding.now l.self.wagons l.book;
}

abbrev pub decreases-loop-v : goal.decreases-loop-v
decreases-loop-v g l = figure_at l.initial.self.siding.now l.self.wagons
