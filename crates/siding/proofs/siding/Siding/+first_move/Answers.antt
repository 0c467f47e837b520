use Rattle.std.proofs.Common.{sym, subst, rules}
use Rattle.motion.specs.Due.{FirstMove}
use Rattle.motion.proofs.Asking.{asks_onward}
use Rattle.motion.proofs.Order.{branch_up}
use Rattle.siding.proofs.Held.{held_tree, one_berth}
use Rattle.siding.proofs.Firsts.{onward_first, ready_unless_open}
use Rattle.siding.proofs.siding.Siding.+first_move.Goals as goal

pub first_move-requires : goal.first_move-requires
first_move-requires t c =
    let x = c.args.self.now in
    let low = c.in_ok-v.ensures in
    let up = branch_up x.track.sections x.track.inner (held_tree x) low.branch in
    (search rules, (low.branch.within, asks_onward x.track.sections x.track.inner x.wagons.in_section x.berths.in_section (held_tree x) (one_berth x) c.args.way c.in_ok-v.v low.branch.within (ready_unless_open c.args.way c.args.self.now.wagons.in_section c.in_ok-v.v c.is_open-open.result c.is_open-open.ensures c.if-open.false) low.asks))

pub returns-then-open : goal.returns-then-open
returns-then-open t c =
    let x = c.args.self.now in
    subst (FirstMove c.args.way x.track.sections x.track.inner x.wagons.in_section x.berths.in_section c.args.u) (sym c.move_over.ensures)
    (FirstMove.straight c.in_ok-v.ensures (c.is_open-open.ensures.0 c.if-open.true))

pub returns-else-open : goal.returns-else-open
returns-else-open t c =
    onward_first c.args.self.now c.args.way c.args.u c.in_ok-v.v c.first_move.result c.in_ok-v.ensures (ready_unless_open c.args.way c.args.self.now.wagons.in_section c.in_ok-v.v c.is_open-open.result c.is_open-open.ensures c.if-open.false) c.first_move.ensures
