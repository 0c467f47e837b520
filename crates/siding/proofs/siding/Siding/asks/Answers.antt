use Rattle.std.proofs.Common.{◌≡◌, get_or, pos, sym, subst, arith, w16, to_z, of_z}
use Rattle.std.proofs.lemmas.Int.{ints}
use Rattle.motion.specs.Due.{Asked}
use Rattle.siding.proofs.Held.{held_demand}
use Rattle.siding.proofs.Row.{asked_asks, asks_asked}
use Rattle.siding.proofs.siding.Siding.asks.Goals as goal

pub returns : goal.returns
returns c =
    let x = c.args.self.now in
    let k = c.args.branch in
    let small = held_demand x k c.requires in
    let stored : to_z w16 (of_z w16 (get_or x.demand k (pos 0))) ≡ get_or x.demand k (pos 0) = omega (arith, ints) in (
      λ yes. asked_asks x c.args.way k c.requires (subst (Asked c.args.way) stored (c.asks.ensures.0 yes)),
      λ asks. c.asks.ensures.1 (subst (Asked c.args.way) (sym stored) (asks_asked x c.args.way k c.requires asks)),
    )
