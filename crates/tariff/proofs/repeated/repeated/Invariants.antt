use Rattle.std.proofs.Common.{◌≡◌}
use Rattle.tariff.specs.Charges.{times}
use Rattle.tariff.proofs.repeated.repeated.Given as goal

abbrev pub invariant-loop-left : goal.invariant-loop-left
invariant-loop-left g l = let rule = g.F.Tariff.rule l.tariff in rule.plus l.sum (times rule l.doubled l.left) ≡ times rule l.initial.doubled l.count

abbrev pub decreases-loop-left : goal.decreases-loop-left
decreases-loop-left g l = l.left
