use Rattle.std.proofs.Common.{◌≡◌, sym, ap, ◌∙◌, arith}
use Rattle.tariff.specs.Charges.{times}
use Rattle.tariff.proofs.Times.{times_next, times_first, times_last}
use Rattle.tariff.proofs.repeated.repeated.Goals as goal

pub loop-left-init : goal.loop-left-init
loop-left-init g c =
    let rule = g.F.Tariff.rule c.args.tariff.now in
    ap (λ x. rule.plus x (times rule c.args.charge c.args.count)) c.nothing-sum.ensures
    ∙ times_first rule (g.met.F.Tariff.laws c.args.tariff.now) c.args.charge c.args.count

pub loop-left-preserved : goal.loop-left-preserved
loop-left-preserved g c =
    times_next (g.F.Tariff.rule c.args.tariff.now) (g.met.F.Tariff.laws c.args.tariff.now)
    c.loop-left.sum c.loop-left.doubled c.join_if_odd-sum.result c.join-doubled.result _ c.loop-left.left
    c.join_if_odd-sum.ensures c.join-doubled.ensures c.loop-left.invariant

pub returns : goal.returns
returns g c =
    let rule = g.F.Tariff.rule c.args.tariff.now in
    let laws = g.met.F.Tariff.laws c.args.tariff.now in
    let over : c.loop-left.left ≡ 0 = omega (arith, c.loop-left-test.false) in
    sym (ap (λ i. rule.plus c.loop-left.sum (times rule c.loop-left.doubled i)) over ∙ times_last rule laws c.loop-left.sum c.loop-left.doubled)
    ∙ c.loop-left.invariant
