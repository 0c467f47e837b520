use Rattle.std.proofs.Common.{◌∙◌, Some, None, subst}
use Rattle.lists.specs.Planner.{Asking}
use Rattle.lists.proofs.Asks.{even_on}
use Rattle.lists.proofs.Shifting.{shifts_on}
use Rattle.lists.proofs.Turning.{fewer, turned, all_turns}
use Rattle.lists.proofs.planner.Planner.settle.Goals as goal

pub loop-v-smaller : goal.loop-v-smaller
loop-v-smaller g c =
    let x = c.args.self.now.siding.now in
    let p = c.loop-v.self in
    let inv = c.loop-v.invariant in
    let asking = c.in-Some.ensures in
    let low = subst (λ y. Asking y p.wagons c.of-way.result c.args.u (Some c.in-Some.v)) inv.siding asking.asking in
    fewer g.W.EachMove.writer x c.args.u c.requires.within p.wagons (even_on p x inv.siding) inv.before c.of-way.result c.of-way.ensures c.in-Some.v low
    (shifts_on c.of-way.result c.args.u c.in-Some.v _ x _ p.wagons (asking.siding ∙ inv.siding) asking.wagons c.shift.ensures.shifted)

pub loop-v-preserved : goal.loop-v-preserved
loop-v-preserved g c =
    let x = c.args.self.now.siding.now in
    let p = c.loop-v.self in
    let inv = c.loop-v.invariant in
    let asking = c.in-Some.ensures in
    let low = subst (λ y. Asking y p.wagons c.of-way.result c.args.u (Some c.in-Some.v)) inv.siding asking.asking in
    let t = turned g.W.EachMove.writer x c.args.u c.requires.within p.wagons (even_on p x inv.siding) inv.before c.of-way.result c.of-way.ensures c.in-Some.v low
    (shifts_on c.of-way.result c.args.u c.in-Some.v _ x _ p.wagons (asking.siding ∙ inv.siding) asking.wagons c.shift.ensures.shifted) inv.room inv.turns in
    record {
      siding = c.shift.ensures.siding ∙ asking.siding ∙ inv.siding;
      before = t.0;
      turns = t.1;
      room = t.2;
    }

pub returns-in-None-clause-settled : goal.returns-in-None-clause-settled
returns-in-None-clause-settled g c =
    let x = c.args.self.now.siding.now in
    let p = c.loop-v.self in
    let inv = c.loop-v.invariant in
    let asking = c.in-None.ensures in
    let none = subst (λ y. Asking y p.wagons c.of-way.result c.args.u None) inv.siding asking.asking in
    all_turns g.W.EachMove.writer x c.args.u c.requires.within p.wagons (even_on p x inv.siding) inv.before c.of-way.result c.of-way.ensures _ asking.wagons none inv.turns
