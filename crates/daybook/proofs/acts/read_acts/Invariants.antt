use Rattle.std.proofs.Common.{vec_items}
use Rattle.std.specs.Slice.Iter.{split_inclusive_rest}
use Rattle.daybook.specs.Input.{cut}
use Rattle.daybook.proofs.ActsRead.{Read}
use Rattle.daybook.proofs.acts.read_acts.Given as goal

abbrev pub invariant-loop-line : goal.invariant-loop-line
invariant-loop-line l = Read (cut l.initial.lines) (cut (split_inclusive_rest l.line-iterator)) (vec_items l.acts)
