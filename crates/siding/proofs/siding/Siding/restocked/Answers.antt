use Rattle.std.proofs.Common.{◌≡◌, ◌∙◌, arith, w16, to_z, of_z}
use Rattle.std.proofs.lemmas.Int.{ints}
use Rattle.siding.proofs.Begun.{begun_few, begun_balances, begun_page}
use Rattle.siding.proofs.Held.{held_demand, held_sizes, sizes_figure}
use Rattle.siding.proofs.Stocked.{shifted_demands}
use Rattle.siding.proofs.siding.Siding.restocked.Goals as goal

pub shift-figure-requires : goal.shift-figure-requires
shift-figure-requires c =
    let x = c.args.self.now in
    let b = c.requires.one in
    record {
      within = c.requires.within;
      one = omega (arith, ints);
      small = held_demand x;
      sums = held_sizes x;
    }

pub invariant_of-result : goal.invariant_of-result
invariant_of-result c =
    let x = c.args.self.now in
    let may = c.requires in
    let shifted = c.shift-figure.ensures in
    let b = may.one in
    let raw : to_z w16 (of_z w16 c.args.by) ≡ c.args.by = omega (arith, ints) in
    let are = shifted_demands x c.args.wagons c.args.berths c.args.at c.args.by _ c.shift-figure.new.demand may raw shifted.demands in
    record {
      long = c.shift-figure.array_long;
      clear = (may.clear_wagons, may.clear_berths);
      clear_demand = (λ s l. shifted.past s l ∙ x.clear_demand s l);
      demands = are;
      sums = shifted.figure ∙ sizes_figure _ _ _ _ _ are;
      few = begun_few _ _ c.begun.ensures;
      balances = begun_balances _ _ c.begun.ensures;
    }

pub returns : goal.returns
returns c =
    let x = c.args.self.now in
    let t = x.track in
    let may = c.requires in
    let b = may.one in
    let raw : to_z w16 (of_z w16 c.args.by) ≡ c.args.by = omega (arith, ints) in
    let are = shifted_demands x c.args.wagons c.args.berths c.args.at c.args.by _ c.shift-figure.new.demand may raw c.shift-figure.ensures.demands in
    begun_page _ _ c.begun.ensures t.sections t.inner c.args.wagons.in_section c.args.berths.in_section (c.shift-figure.ensures.figure ∙ sizes_figure _ _ _ _ _ are)
