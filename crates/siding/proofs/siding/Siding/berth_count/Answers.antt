use Rattle.siding.proofs.Held.{berths_counted}
use Rattle.siding.proofs.siding.Siding.berth_count.Goals as goal

pub returns : goal.returns
returns c = berths_counted c.args.self.now
