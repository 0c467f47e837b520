use Rattle.std.proofs.Common.{◌<◌, length, arith}
use Rattle.siding.specs.Branches.{row_from}
use Rattle.siding.proofs.Branches.{row_next, row_shorter}
use Rattle.siding.proofs.track.branches.walking.BranchesIterator.next.Goals as goal

pub returns-clause-steps : goal.returns-clause-steps
returns-clause-steps c = rw c.from-self.ensures (row_next c.args.self.now.track.now c.args.self.now.at (omega arith) c.args.self.now.within)

pub returns-clause-goes : goal.returns-clause-goes
returns-clause-goes c =
    let t = c.args.self.now.track.now in
    let less : length (row_from t c.from-self.result) < length (row_from t c.args.self.now.at) =
    rw c.from-self.ensures (row_shorter t c.args.self.now.at (omega arith) c.args.self.now.within) in
    record { on = λ f. (tt, tt, less); keeps = tt; rests = λ f. tt }
