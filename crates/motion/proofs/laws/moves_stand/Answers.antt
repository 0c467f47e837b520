use Rattle.motion.proofs.Crossings.{one_demand_changes, crossings_balance}
use Rattle.motion.proofs.Floors.{figure_is_a_floor}
use Rattle.motion.proofs.laws.moves_stand.Goals as goal

pub returns : goal.returns
returns c = record {
  one_demand_changes = one_demand_changes;
  crossings_balance = λ n inner wagons end ms tree long leads s. crossings_balance n inner tree long leads s;
  figure_is_a_floor = figure_is_a_floor;
}
