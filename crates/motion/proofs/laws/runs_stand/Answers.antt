use Rattle.motion.proofs.Runs.{one_end, some_end, every_split}
use Rattle.motion.proofs.laws.runs_stand.Goals as goal

pub returns : goal.returns
returns c = record { one_end = one_end; some_end = some_end; every_split = every_split }
