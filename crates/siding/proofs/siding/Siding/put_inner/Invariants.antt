use Rattle.std.proofs.Common.{◌≡◌, get_or}
use Rattle.siding.specs.Sheet.{overwritten}
use Rattle.siding.proofs.Pairs.{pairs}
use Rattle.siding.proofs.siding.Siding.put_inner.Given as goal

abbrev pub invariant-loop-s : goal.invariant-loop-s
invariant-loop-s l = l.buffer ≡ overwritten l.initial.buffer 4 (pairs (λ t. get_or l.self.track.inner t 0) 0 l.s)
