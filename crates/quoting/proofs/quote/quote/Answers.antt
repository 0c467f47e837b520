use Rattle.std.proofs.Common.{◌≡◌, ℤ, ◌∙◌, arith, w16, SFits, to_z, of_z, rules}
use Rattle.std.proofs.lemmas.Int.{to_z-of_z}
use Rattle.motion.specs.Demand.{demand_of}
use Rattle.quoting.proofs.Quotes.{read_is, quote_begins, quote_goes_on, quote_ends}
use Rattle.quoting.proofs.quote.quote.Goals as goal

pub loop-s-init : goal.loop-s-init
loop-s-init g c = record { some = omega arith; sum_is = quote_begins (g.F.Tariff.rule c.args.tariff.now) c.args.siding.now _ c.nothing-sum.ensures }

pub loop-s-preserved : goal.loop-s-preserved
loop-s-preserved g c =
    let x = c.args.siding.now in
    let s = c.loop-s.s in
    let d : ℤ = c.in_ok-demand.demand in
    let fits : SFits w16 d = search rules in
    let raw : to_z w16 (of_z w16 d) ≡ d = to_z-of_z w16 d fits in
    let value : d ≡ demand_of x.track.sections x.track.inner x.wagons.in_section x.berths.in_section s =
    read_is x s (demand_of x.track.sections x.track.inner x.wagons.in_section x.berths.in_section s) d (omega (arith, c.loop-s-test.true, c.sections-s-end.ensures)) c.in_ok-demand.ensures in
    record {
      some = omega arith;
      sum_is = quote_goes_on (g.F.Tariff.rule c.args.tariff.now) x c.loop-s.sum c.share.result c.join-sum.result s (to_z w16 (of_z w16 d))
          c.loop-s.invariant.some (raw ∙ value) c.loop-s.invariant.sum_is c.share.ensures c.join-sum.ensures;
    }

pub returns : goal.returns
returns g c =
    quote_ends (g.F.Tariff.rule c.args.tariff.now) c.args.siding.now (g.met.F.Tariff.laws c.args.tariff.now)
    c.in_ok-test_numbers.ensures
    c.loop-s.sum c.loop-s.s
    (omega (arith, c.loop-s-test.false, c.sections-s-end.ensures, c.args.siding.now.track.some, c.loop-s.auto.s-end (omega (arith, c.sections-s-end.ensures, c.args.siding.now.track.some))))
    c.loop-s.invariant.sum_is
