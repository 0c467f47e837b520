use Rattle.std.proofs.Common.{refl}
use Rattle.motion.proofs.Bounds.{figures_within}
use Rattle.motion.proofs.laws.largest_figure.Goals as goal

pub returns : goal.returns
returns c = record { value = refl; figures_within = figures_within }
