use Rattle.std.proofs.Common.{rules}
use Rattle.siding.proofs.Outcomes.{carried_makes, stepped_makes}
use Rattle.planning.proofs.replay.act_on.Goals as goal

pub returns-in-Call : goal.returns-in-Call
returns-in-Call c = rw c.in-Call.is (search (rules, carried_makes))

pub returns-in-Step : goal.returns-in-Step
returns-in-Step c = rw c.in-Step.is (search (rules, stepped_makes))
