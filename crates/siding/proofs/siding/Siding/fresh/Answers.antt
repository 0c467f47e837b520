use Rattle.std.proofs.Common.{nat_abs, ap, ◌∙◌, arith, rules}
use Rattle.motion.proofs.Bounds.{demands_within}
use Rattle.siding.proofs.Begun.{begun_few, begun_balances, begun_page}
use Rattle.siding.proofs.Held.{sizes_figure}
use Rattle.siding.proofs.siding.Siding.fresh.Goals as goal

pub figure_of-figure-requires : goal.figure_of-figure-requires
figure_of-figure-requires c = record {
  small = λ s l.
      let t = c.args.track in
      let e = ap nat_abs (c.demands-demand.ensures.are s l) in
      let b = demands_within t.sections t.inner c.args.wagons.in_section c.args.berths.in_section t.most (λ k m. c.args.wagons.single k) (λ k m. c.args.berths.single k) s in
      omega arith;
}

pub invariant_of-result : goal.invariant_of-result
invariant_of-result c =
    let demand = c.demands-demand.ensures in
    record {
      long = search rules;
      clear = (c.requires.clear_wagons, c.requires.clear_berths);
      clear_demand = demand.clear;
      demands = demand.are;
      sums = c.figure_of-figure.ensures ∙ sizes_figure _ _ _ _ _ demand.are;
      few = begun_few _ _ c.begun.ensures;
      balances = begun_balances _ _ c.begun.ensures;
    }

pub returns : goal.returns
returns c =
    let t = c.args.track in
    begun_page _ _ c.begun.ensures t.sections t.inner c.args.wagons.in_section c.args.berths.in_section
    (c.figure_of-figure.ensures ∙ sizes_figure _ _ _ _ _ c.demands-demand.ensures.are)
