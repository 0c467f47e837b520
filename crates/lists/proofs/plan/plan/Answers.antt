use Rattle.siding.specs.Stands.{state_of}
use Rattle.lists.proofs.Entries.{written_as, moves_themselves}
use Rattle.lists.proofs.plan.plan.Goals as goal

pub returns-clause-planned : goal.returns-clause-planned
returns-clause-planned c =
    written_as (state_of c.args.siding.now) _ _ (moves_themselves _) c.args.list.now c.write_due.new.list c.write_due.result c.write_due.ensures.due
