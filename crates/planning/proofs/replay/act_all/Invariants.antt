use Rattle.std.proofs.Common.{take}
use Rattle.motion.specs.Calls.{After}
use Rattle.siding.specs.Stands.{state_of}
use Rattle.planning.proofs.replay.act_all.Given as goal

abbrev pub invariant-loop-each : goal.invariant-loop-each
invariant-loop-each l = After (take l.each-index l.acts) (state_of l.initial.siding) (state_of l.siding)
