use Rattle.std.proofs.Common.{◌≡◌, ◌≤◌, drop}
use Rattle.daybook.specs.Line.{digits_from, largest}
use Rattle.daybook.proofs.line.read_digits.Given as goal

-- reading on from here gives what reading all gives
abbrev pub invariant-loop-n : goal.invariant-loop-n
invariant-loop-n l = (l.number ≤ largest) × (digits_from l.number (drop l.n l.rest) ≡ digits_from 0 l.rest)
