use Rattle.std.proofs.Common.{rules}
use Rattle.lists.proofs.DueWritten.{starts_settled, writes_due}
use Rattle.lists.proofs.filling.write_due.Goals as goal

pub balance-requires-clause-before : goal.balance-requires-clause-before
balance-requires-clause-before g c = starts_settled c.new-planner.result

pub returns-clause-due : goal.returns-clause-due
returns-clause-due g c =
    writes_due c.args.siding.now c.new-planner.result c.new-planner.ensures.siding c.new-planner.ensures.wagons g.W.EachMove.writer c.args.list.now
    c.clear.ensures.len c.clear.ensures.slots c.in_ok-may_write.ensures.1 c.balance.ensures.balanced c.len.result c.len.ensures _ (search rules)
