use Rattle.std.proofs.Common.{ℕ, List, string_bytes}
use Rattle.std.specs.Slice.Iter.{split_inclusive_rest}
use Rattle.siding.specs.Stands.{state_of}
use Rattle.daybook.specs.Input.{cut}
use Rattle.daybook.specs.Day.{More}
use Rattle.daybook.proofs.day.answer_lines.Given as goal

-- whatever the rest answers after what is written, the whole answers
abbrev pub invariant-loop-line : goal.invariant-loop-line
invariant-loop-line l =
    (whole : List ℕ)
    → More (cut (split_inclusive_rest l.line-iterator)) (state_of l.siding) (string_bytes l.text) whole
    → More (cut l.initial.lines) (state_of l.initial.siding) (string_bytes l.initial.text) whole
