use Rattle.std.proofs.Common.{sym, subst}
use Rattle.siding.specs.Steps.{IsDue}
use Rattle.siding.proofs.Firsts.{calm_all, first_asks, first_due}
use Rattle.siding.proofs.siding.Siding.due.Goals as goal

pub first_move-requires : goal.first_move-requires
first_move-requires c =
    let first = c.in_ok-u.ensures in
    record { within = first.within; some = first_asks c.args.self.now c.of.result c.in_ok-u.u c.requires first c.of.ensures }

pub returns-in_err-u : goal.returns-in_err-u
returns-in_err-u c = subst (IsDue c.args.self.now) (sym c.from_residual.ensures) (calm_all c.args.self.now c.in_err-u.ensures)

pub returns : goal.returns
returns c = first_due c.args.self.now c.of.result c.in_ok-u.u c.first_move.result c.in_ok-u.ensures c.of.ensures c.first_move.ensures
