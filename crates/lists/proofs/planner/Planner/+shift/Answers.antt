use Rattle.std.proofs.Common.{◌∙◌}
use Rattle.siding.proofs.Firsts.{ready_unless_open}
use Rattle.lists.proofs.Asks.{even, even_on}
use Rattle.lists.proofs.Shifting.{can_carry, shifts_on, has_slot, straight, some_asks, served_after, slot_after, after}
use Rattle.lists.proofs.planner.Planner.+shift.Goals as goal

pub hand_over-requires-clause-room : goal.hand_over-requires-clause-room
hand_over-requires-clause-room g t c =
    let p = c.args.self.now in
    has_slot g.W.EachMove.writer p.siding.now p.wagons (even p) c.args.way c.args.u c.args.v c.requires.lowest c.requires.ready (c.is_open.ensures.0 c.if-is_open.true)
    c.args.book.now c.requires.room

pub returns-then-is_open-clause-shifted : goal.returns-then-is_open-clause-shifted
returns-then-is_open-clause-shifted g t c =
    let p = c.args.self.now in
    straight g.W.EachMove.writer p.siding.now p.wagons (even p) c.args.way c.args.u c.args.v c.requires.lowest c.requires.ready (c.is_open.ensures.0 c.if-is_open.true)
    _ c.hand_over.ensures.carried c.hand_over.ensures.wrote

pub unreachable-requires : goal.unreachable-requires
unreachable-requires g t c =
    let p = c.args.self.now in
    let waits = ready_unless_open c.args.way p.wagons c.args.v c.is_open.result c.is_open.ensures c.if-is_open.false in
    some_asks g.W.EachMove.writer p.siding.now p.wagons (even p) c.args.way c.args.u c.args.v c.requires.lowest c.requires.ready waits c.in_default.ensures.asking

pub hand_over-requires-2-clause-can : goal.hand_over-requires-2-clause-can
hand_over-requires-2-clause-can g t c =
    let p = c.args.self.now in
    let asking = c.in-Some.ensures in
    let waits = ready_unless_open c.args.way p.wagons c.args.v c.is_open.result c.is_open.ensures c.if-is_open.false in
    let made = shifts_on c.args.way c.args.v c.in-Some.t _ p.siding.now _ p.wagons asking.siding asking.wagons c.shift.ensures.shifted in
    can_carry c.args.way c.shift.new.self c.args.u c.args.v p.siding.now (c.shift.ensures.siding ∙ asking.siding)
    (served_after g.W.EachMove.writer p.siding.now p.wagons (even p) c.args.way c.args.u c.args.v c.requires.lowest c.requires.ready waits c.in-Some.t asking.asking _ made)

pub hand_over-requires-2-clause-room : goal.hand_over-requires-2-clause-room
hand_over-requires-2-clause-room g t c =
    let p = c.args.self.now in
    let asking = c.in-Some.ensures in
    let waits = ready_unless_open c.args.way p.wagons c.args.v c.is_open.result c.is_open.ensures c.if-is_open.false in
    let made = shifts_on c.args.way c.args.v c.in-Some.t _ p.siding.now _ p.wagons asking.siding asking.wagons c.shift.ensures.shifted in
    slot_after g.W.EachMove.writer p.siding.now p.wagons (even p) c.args.way c.args.u c.args.v c.requires.lowest c.requires.ready waits c.in-Some.t asking.asking _ made
    (even_on c.shift.new.self p.siding.now (c.shift.ensures.siding ∙ asking.siding)) c.requires.room

pub returns-clause-shifted : goal.returns-clause-shifted
returns-clause-shifted g t c =
    let p = c.args.self.now in
    let asking = c.in-Some.ensures in
    let waits = ready_unless_open c.args.way p.wagons c.args.v c.is_open.result c.is_open.ensures c.if-is_open.false in
    let made = shifts_on c.args.way c.args.v c.in-Some.t _ p.siding.now _ p.wagons asking.siding asking.wagons c.shift.ensures.shifted in
    after g.W.EachMove.writer p.siding.now p.wagons (even p) c.args.way c.args.u c.args.v c.requires.lowest c.requires.ready waits c.in-Some.t asking.asking _ made
    _ c.hand_over-2.ensures.carried c.hand_over-2.ensures.wrote
