use Rattle.std.proofs.Common.{◌≡◌, ◌-◌, ◌≤◌}
use Rattle.quoting.proofs.Quotes.{so_far}
use Rattle.quoting.proofs.quote.quote.Given as goal

abbrev pub invariant-loop-s : goal.invariant-loop-s
invariant-loop-s g l = record { some : 1 ≤ l.s; sum_is : l.sum ≡ so_far (g.F.Tariff.rule l.tariff) l.siding (l.s - 1) }
