use Rattle.std.proofs.Common.{rules, tests}
use Rattle.siding.specs.Stands.{state_of}
use Rattle.std.specs.Slice.Iter.{split_inclusive_rest}
use Rattle.daybook.proofs.Days.{more_first, more_none}
use Rattle.daybook.proofs.Lines.{next_line}
use Rattle.daybook.proofs.day.answer_lines.Goals as goal

pub loop-line-preserved : goal.loop-line-preserved
loop-line-preserved c = λ whole rest.
    let first = next_line _ _ _ _ _ c.next.result c.in-Some.line c.in-Some.is c.next.ensures.steps (λ a r q k. search (rules, tests)) in
    c.loop-line.invariant whole (more_first _ _ _ _ _ _ _ whole first c.in_ok-answer_line.ensures rest)

pub returns : goal.returns
returns c =
    let steps = rw c.in-None.is at c.next.ensures.steps in
    c.loop-line.invariant _ (more_none (split_inclusive_rest c.loop-line.line-iterator) (state_of c.loop-line.siding) _ steps.0)
