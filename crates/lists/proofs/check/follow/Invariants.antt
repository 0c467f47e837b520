use Rattle.std.proofs.Common.{◌≡◌, length, take}
use Rattle.motion.specs.Moves.{Leads}
use Rattle.lists.proofs.check.follow.Given as goal

-- the moves so far lead to where the wagons are
abbrev pub invariant-loop-index : goal.invariant-loop-index
invariant-loop-index l = (length l.wagons ≡ 512) × Leads l.track.sections l.track.inner l.start (take l.index l.moves) l.wagons
