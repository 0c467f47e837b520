use Rattle.std.proofs.Common.{◌+◌, length, take, sym, ap, subst, arith}
use Rattle.std.proofs.lemmas.List.{length-set}
use Rattle.std.proofs.lemmas.Result.{err_from_is_err_and}
use Rattle.motion.specs.Moves.{Leads}
use Rattle.motion.proofs.Led.{leads_more}
use Rattle.lists.proofs.Exact.{stopped_at}
use Rattle.lists.proofs.check.follow.Goals as goal

pub loop-index-init : goal.loop-index-init
loop-index-init c = (omega arith, Leads.stays)

pub returns-in_err-may_move : goal.returns-in_err-may_move
returns-in_err-may_move c =
    let p = err_from_is_err_and c.from_residual.result c.from_residual.ensures.1 in
    let t = c.args.track.now in
    rw (p.1, p.2)
    (stopped_at t.sections t.inner c.args.start.now c.args.moves.now
    c.loop-index.index _ c.loop-index.wagons _ c.loop-index-test.true c.loop-index.invariant.1 c.in_err-may_move.ensures)

pub loop-index-preserved : goal.loop-index-preserved
loop-index-preserved c = (
  omega (arith, simp length-set at (ap length c.move_wagon.ensures), c.loop-index.invariant.0),
  subst (Leads c.args.track.now.sections c.args.track.now.inner c.args.start.now (take (c.loop-index.index + 1) c.args.moves.now)) (sym c.move_wagon.ensures)
      (leads_more c.args.moves.now c.loop-index.index _ c.loop-index-test.true c.loop-index.invariant.1 c.in_ok-may_move.ensures),
)
