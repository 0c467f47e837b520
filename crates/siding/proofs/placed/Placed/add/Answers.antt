use Rattle.std.proofs.Common.{arith}
use Rattle.siding.proofs.Counted.{sum_most}
use Rattle.siding.proofs.placed.Placed.add.Goals as goal

pub overflow_add-self-2 : goal.overflow_add-self-2
overflow_add-self-2 c =
    let x = c.args.self.now in
    omega (arith, x.long, x.counted, sum_most x.in_section x.single)
