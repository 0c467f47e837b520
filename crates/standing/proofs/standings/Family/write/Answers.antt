use Rattle.std.proofs.Common.{◌≡◌, rules, arith}
use Rattle.standing.proofs.Written.{written_none, written_empty, written_wagon, wagon_placed, written_all}
use Rattle.standing.proofs.standings.Family.write.Goals as goal

pub loop-section-init : goal.loop-section-init
loop-section-init c = search (rules, written_none)

pub overflow_sub-wagons : goal.overflow_sub-wagons
overflow_sub-wagons c =
    wagon_placed _ _ _ _ _ c.loop-section.section _ _ c.loop-section-test.true c.loop-section.auto.section c.loop-section.invariant
    (omega (arith, c.choices-with_it_empty.ensures))

pub loop-section-preserved-then-left-with_it_empty : goal.loop-section-preserved-then-left-with_it_empty
loop-section-preserved-then-left-with_it_empty c =
    written_empty _ _ _ _ _ c.loop-section.section _ _ c.loop-section-test.true c.loop-section.auto.section c.loop-section.invariant
    (omega (arith, c.choices-with_it_empty.ensures))

pub loop-section-preserved : goal.loop-section-preserved
loop-section-preserved c =
    rw c.choices-with_it_empty.ensures
    (written_wagon _ _ _ _ _ c.loop-section.section _ _ c.loop-section-test.true c.loop-section.auto.section c.loop-section.invariant
    (omega (arith, c.choices-with_it_empty.ensures)))

pub returns-clause-placed : goal.returns-clause-placed
returns-clause-placed c =
    let z : c.loop-section.section ≡ 0 = omega arith in
    written_all _ _ _ _ c.args.self.now.in_range (rw z at c.loop-section.invariant)
