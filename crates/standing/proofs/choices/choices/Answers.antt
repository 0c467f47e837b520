use Rattle.std.proofs.Common.{mul-le-mul, rules, arith}
use Rattle.standing.proofs.Counts.{none_from_fewer}
use Rattle.standing.proofs.Rows.{triangle_entry}
use Rattle.standing.proofs.choices.choices.Goals as goal

pub bounds-c : goal.bounds-c
bounds-c c = grind (arith, mul-le-mul)

pub returns-then-i-c : goal.returns-then-i-c
returns-then-i-c c = search (rules, none_from_fewer)

-- here the whole table is computed by its rule and compared with the one that the program has
pub returns : goal.returns
returns c = search (rules, triangle_entry)
