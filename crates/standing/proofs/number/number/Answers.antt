use Rattle.std.proofs.Common.{rules, arith}
use Rattle.standing.proofs.Counted.{counted_none, counted_empty, counted_wagon, counted_fault, counted_all, number_fits}
use Rattle.standing.proofs.number.number.Goals as goal
use Rattle.standing.proofs.number.number.Goals.{in-0, in-1}

pub loop-section-init : goal.loop-section-init
loop-section-init c = search (rules, counted_none)

pub overflow_add-number : goal.overflow_add-number
overflow_add-number c = grind (arith, number_fits _ _ _ _ c.loop-section.invariant c.loop-section-test.true)

pub returns-in_default : goal.returns-in_default
returns-in_default c = counted_fault _ _ _ _ c.loop-section.invariant c.loop-section-test.true (omega arith)

pub loop-section-preserved : goal.loop-section-preserved
loop-section-preserved c =
    elim c.match-mark.branch [
      | in-0 w ↦ rw (w.wagons-is, w.number-is) (counted_empty _ _ _ _ c.loop-section.invariant c.loop-section-test.true w.in-0.is)
      | in-1 w ↦
          rw (w.wagons-is, w.number-is, w.choices-number.ensures)
          (counted_wagon _ _ _ _ c.loop-section.invariant c.loop-section-test.true w.in-1.is)
    ]

pub returns : goal.returns
returns c = search (rules, counted_all)
