use Rattle.std.proofs.Common.{◌≡◌, length, arith, rules}
use Rattle.std.proofs.lemmas.Iterator.{YieldsList-from_slice, YieldsList-from_map}
use Rattle.std.proofs.lemmas.Iterator.Consumers.{fits_by_from_yields_list}
use Rattle.siding.proofs.Counted.{sum_most}
use Rattle.siding.proofs.placed.Placed.new.Goals as goal

pub sum-in_all-requires-clause-fits : goal.sum-in_all-requires-clause-fits
sum-in_all-requires-clause-fits c =
    let xs = c.args.in_section in
    let long : length xs ≡ 512 = search rules in
    fits_by_from_yields_list (λ y. y) xs c.map.result _
    (YieldsList-from_map _ (λ y. y) (YieldsList-from_slice xs cc) c.map.ensures.closure (λ x r q k. search rules))
    (omega (arith, sum_most xs c.requires))
