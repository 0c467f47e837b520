use Rattle.std.proofs.Common.{rules}
use Rattle.standing.proofs.Answered.{round_trip}
use Rattle.standing.proofs.standings.write_standing.Goals as goal

pub returns-clause-numbers_round_trip : goal.returns-clause-numbers_round_trip
returns-clause-numbers_round_trip c = search (rules, round_trip)

pub returns-in_err-test_writing-clause-numbers_round_trip : goal.returns-in_err-test_writing-clause-numbers_round_trip
returns-in_err-test_writing-clause-numbers_round_trip c = search (rules, round_trip)
