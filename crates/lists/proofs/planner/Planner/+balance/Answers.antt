use Rattle.std.proofs.Common.{ℕ, ◌<◌, sym, ap, ◌∙◌, subst, arith, rules}
use Rattle.motion.specs.Stepping.{Task}
use Rattle.motion.proofs.Order.{branch_up}
use Rattle.siding.specs.declared.siding.Siding.{Siding}
use Rattle.siding.specs.Branches.{row, branches_of}
use Rattle.siding.proofs.Held.{held_tree}
use Rattle.lists.specs.Balanced.{Made, BalancingAt, HasRoom, SettledBefore}
use Rattle.lists.proofs.Asks.{even, even_on}
use Rattle.lists.proofs.Rows.{row_begins, settled_room, whole, next, branch_before, row_goes_on, branch_room}
use Rattle.lists.proofs.planner.Planner.+balance.Goals as goal

pub loop-branch-init : goal.loop-branch-init
loop-branch-init g t c =
    let p = c.args.self.now in
    let x = p.siding.now in
    let settled = c.settle.ensures.settled in
    let writer = g.W.EachMove.writer in
    let track = c.layout.ensures.track ∙ ap (λ (y : Siding). y.track) c.settle.ensures.siding in
    let left = ap row c.into_iter-branch-iterator.ensures.into_iter_gives ∙ c.branches-branch-items.ensures ∙ ap (λ t. branches_of t c.args.u) track in
    record {
      siding = c.settle.ensures.siding;
      row = row_begins writer x c.args.u c.requires.within p.wagons (even p) c.requires.before settled (row c.into_iter-branch-iterator.result) left;
      room = settled_room writer x c.args.u c.requires.within p.wagons (even p) c.requires.before settled c.requires.room;
    }

pub loop-branch-preserved : goal.loop-branch-preserved
loop-branch-preserved g t c =
    let x = c.args.self.now.siding.now in
    let p = c.loop-branch.self in
    let b : ℕ = c.in-Some.branch in
    let inv = c.loop-branch.invariant in
    let left = row c.next.new.self in
    let balanced = subst (λ y. Made g.W.EachMove.writer (BalancingAt y p.wagons (Task.whole b)) c.loop-branch.book c.balance.new.self.wagons c.balance.new.book) inv.siding c.balance.ensures.balanced in
    let writer = g.W.EachMove.writer in
    record {
      siding = c.balance.ensures.siding ∙ inv.siding;
      row = row_goes_on writer x c.args.u b left _ c.in-Some.ensures.steps inv.row (even_on p x inv.siding) balanced;
      room = branch_room writer x c.args.u b left _ c.in-Some.ensures.steps inv.row (even_on p x inv.siding) balanced inv.room;
    }

pub balance-requires : goal.balance-requires
balance-requires g t c κs =
    let x = c.args.self.now.siding.now in
    let p = c.loop-branch.self in
    let b : ℕ = c.in-Some.branch in
    let inv = c.loop-branch.invariant in
    let branch = (next g.W.EachMove.writer x c.args.u b (row c.next.new.self) _ c.in-Some.ensures.steps inv.row).branch in
    let up = branch_up x.track.sections x.track.inner (held_tree x) branch in
    let same = ap (λ (y : Siding). y.track.sections) inv.siding in
    let within : b < p.siding.now.track.sections = omega (arith, branch.within) in
    let before = subst (λ y. SettledBefore y p.wagons b) (sym inv.siding) (branch_before g.W.EachMove.writer x c.args.u b (row c.next.new.self) _ c.in-Some.ensures.steps inv.row) in
    let room = subst (λ y. HasRoom y p.wagons c.loop-branch.book) (sym inv.siding) inv.room in
    λ lives. (search (rules, arith), (lives.0, (lives.1, (within, (before, room)))))

pub returns-clause-balanced : goal.returns-clause-balanced
returns-clause-balanced g t c =
    let p = c.args.self.now in
    whole g.W.EachMove.writer p.siding.now c.args.u c.requires.within p.wagons (even p) c.requires.before c.settle.ensures.settled
    _ c.in-None.ensures.steps.0 c.loop-branch.invariant.row
