use Rattle.tariff.proofs.Filled.{holds_none}
use Rattle.tariff.proofs.steepest.Steepest.level.Goals as goal

pub returns-clause-inward : goal.returns-clause-inward
returns-clause-inward c = holds_none

pub returns-clause-outward : goal.returns-clause-outward
returns-clause-outward c = holds_none
