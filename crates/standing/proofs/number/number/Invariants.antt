use Rattle.standing.proofs.Counted.{CountedTo}
use Rattle.standing.proofs.number.number.Given as goal

abbrev pub invariant-loop-section : goal.invariant-loop-section
invariant-loop-section l = CountedTo l.standing l.section l.wagons l.number
