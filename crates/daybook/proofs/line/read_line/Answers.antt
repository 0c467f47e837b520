use Rattle.std.proofs.Common.{rules}
use Rattle.daybook.proofs.Sayings.{line_says}
use Rattle.daybook.proofs.line.read_line.Goals as goal

pub returns-in_err-letter-clause-form : goal.returns-in_err-letter-clause-form
returns-in_err-letter-clause-form c = search (rules, line_says)

pub returns-clause-form : goal.returns-clause-form
returns-clause-form c = search (rules, line_says)
