use Rattle.std.proofs.Common.{refl}
use Rattle.motion.proofs.Bounds.{demands_within}
use Rattle.motion.proofs.laws.largest_demand.Goals as goal

pub returns : goal.returns
returns c = record { value = refl; demands_within = demands_within }
