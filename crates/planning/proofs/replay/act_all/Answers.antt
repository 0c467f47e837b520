use Rattle.motion.specs.Calls.{After}
use Rattle.motion.proofs.Runs.{after_more}
use Rattle.planning.proofs.replay.act_all.Goals as goal

pub loop-each-init : goal.loop-each-init
loop-each-init c = After.start

pub loop-each-preserved : goal.loop-each-preserved
loop-each-preserved c = after_more c.args.acts.now c.loop-each.each-index _ c.loop-each-test.true c.loop-each.invariant c.act_on.ensures
