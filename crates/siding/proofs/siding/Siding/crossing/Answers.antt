use Rattle.siding.proofs.Handed.{crosses_inward, crosses_outward}
use Rattle.siding.proofs.siding.Siding.crossing.Goals as goal

pub returns-then-hand : goal.returns-then-hand
returns-then-hand c =
    let e = c.crossed.ensures in
    crosses_inward c.args.self.now c.args.hand c.requires c.crossed.result c.if-hand.true (rw c.from.ensures at e.section) (rw c.from.ensures at e.demand) (rw c.from.ensures at e.figure)

pub returns-else-hand : goal.returns-else-hand
returns-else-hand c =
    let e = c.crossed-else-hand.ensures in
    crosses_outward c.args.self.now c.args.hand c.requires c.crossed-else-hand.result c.if-hand.false (rw c.from-else-hand.ensures at e.section) (rw c.from-else-hand.ensures at e.demand) (rw c.from-else-hand.ensures at e.figure)
