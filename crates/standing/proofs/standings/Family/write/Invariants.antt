use Rattle.standing.proofs.Written.{WrittenFrom}
use Rattle.standing.proofs.standings.Family.write.Given as goal

abbrev pub invariant-loop-section : goal.invariant-loop-section
invariant-loop-section l = WrittenFrom l.self.sections l.self.wagons l.number l.initial.buffer l.buffer l.section l.wagons l.left
