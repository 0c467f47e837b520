use Rattle.std.proofs.Common.{rules}
use Rattle.standing.proofs.Dense.{dense}
use Rattle.standing.proofs.standings.standings.Goals as goal

pub returns-clause-numbers_are_dense : goal.returns-clause-numbers_are_dense
returns-clause-numbers_are_dense c = search (rules, dense)
