use Rattle.tariff.proofs.Filled.{holds_none, short_none}
use Rattle.tariff.proofs.metres.Metres.level.Goals as goal

pub invariant_of-result : goal.invariant_of-result
invariant_of-result c = record { short = short_none }

pub returns : goal.returns
returns c = holds_none
