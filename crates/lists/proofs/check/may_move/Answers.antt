use Rattle.std.proofs.Common.{rules}
use Rattle.lists.proofs.Faults.{tried}
use Rattle.lists.proofs.check.may_move.Goals as goal

pub returns : goal.returns
returns c =
    tried c.args.track.now.sections c.args.track.now.inner c.args.wagons.now c.args.each c.args.index _ (λ e f h. search rules)
    c.test_move.result c.map_err.result c.test_move.ensures.tested c.test_move.ensures.legal c.map_err.ensures.cases
