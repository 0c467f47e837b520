use Rattle.std.proofs.Common.{ℤ, ℕ, nat_abs, ◌∙◌, arith, w16, to_z, of_z, rules, tests}
use Rattle.std.proofs.lemmas.Iterator.{YieldsList-from_slice, YieldsList-from_map}
use Rattle.std.proofs.lemmas.Iterator.Consumers.{sum_by_from_yields_List, fits_by_from_yields_list}
use Rattle.siding.proofs.Way.{part_sizes, part_most}
use Rattle.siding.proofs.tally.figure_of.Goals as goal

abbrev size : ℤ → ℕ
size z = nat_abs (to_z w16 (of_z w16 z))

pub sum-requires-clause-fits : goal.sum-requires-clause-fits
sum-requires-clause-fits c =
    let t = c.args.track.now in
    let xs = c.iter.result.rest.now in
    let most = part_most t.sections c.args.demand.now (omega (arith, t.most, c.told-demand)) c.requires.small t.some xs c.iter.ensures.rest in
    fits_by_from_yields_list size xs c.map.result _
    (YieldsList-from_map _ size (YieldsList-from_slice xs (cc)) c.map.ensures.closure (λ x r q k. search (rules, tests)))
    (omega (arith, t.most))

pub returns : goal.returns
returns c =
    let t = c.args.track.now in
    let xs = c.iter.result.rest.now in
    sum_by_from_yields_List size xs c.map.result c.sum.result c.sum.ensures.ran
    (YieldsList-from_map _ size (YieldsList-from_slice xs (cc)) c.map.ensures.closure (λ x r q k. search (rules, tests)))
    ∙ part_sizes t.sections c.args.demand.now (omega (arith, t.most, c.told-demand)) c.requires.small t.some xs c.iter.ensures.rest
