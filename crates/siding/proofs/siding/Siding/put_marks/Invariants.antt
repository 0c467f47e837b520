use Rattle.std.proofs.Common.{◌≡◌, ◌+◌, ◌*◌, map}
use Rattle.std.specs.List.{range_with_len}
use Rattle.siding.specs.Sheet.{overwritten, mark}
use Rattle.siding.specs.Stands.{state_of}
use Rattle.siding.proofs.siding.Siding.put_marks.Given as goal

abbrev pub invariant-loop-s : goal.invariant-loop-s
invariant-loop-s l = l.buffer ≡ overwritten l.initial.buffer (4 + 2 * l.self.track.sections) (map (mark (state_of l.self)) (range_with_len 0 l.s))
