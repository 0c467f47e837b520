use Rattle.siding.proofs.Held.{wagons_counted}
use Rattle.siding.proofs.siding.Siding.wagon_count.Goals as goal

pub returns : goal.returns
returns c = wagons_counted c.args.self.now
