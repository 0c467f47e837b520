use Rattle.lists.proofs.Best.{best}
use Rattle.lists.proofs.offer.make_offer.Goals as goal

pub returns-clause-offered : goal.returns-clause-offered
returns-clause-offered g c = (c.in_ok-moves.ensures.planned, best (g.F.Tariff.rule c.args.tariff.now) (g.met.F.Tariff.laws c.args.tariff.now) c.args.siding.now c.args.list.now c.plan.new.list _ c.in_ok-moves.ensures.planned _ c.in_ok-quote.ensures)
