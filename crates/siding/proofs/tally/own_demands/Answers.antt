use Rattle.std.proofs.Common.{◌≡◌, get_or, pos, ◌-ℤ◌, rules, tests}
use Rattle.siding.proofs.Made.{made_each}
use Rattle.siding.proofs.tally.own_demands.Goals as goal

pub returns : goal.returns
returns c s l =
    let berths = c.args.berths.now.in_section in
    let wagons = c.args.wagons.now.in_section in
    made_each _ _ (λ i r. r ≡ pos (get_or berths i 0) -ℤ pos (get_or wagons i 0)) (λ i r q k. search (rules, tests)) c.from_fn.result 512 c.from_fn.ensures.items s l (pos 0)
