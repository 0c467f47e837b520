use Rattle.std.proofs.Common.{◌≡◌, ◌≤◌, get_or, ℤ, pos, ◌+ℤ◌, nat_abs, refl, ap, arith, w16, to_z, of_z}
use Rattle.std.proofs.lemmas.Int.{ints}
use Rattle.siding.proofs.Held.{held_demand, held_figure, held_part}
use Rattle.siding.proofs.siding.Siding.crossed.Goals as goal

pub overflow_add-demand : goal.overflow_add-demand
overflow_add-demand c =
    let d = held_demand c.args.self.now c.args.section c.requires.within.1 in
    let b = c.requires.one in
    omega (arith, ints)

pub resized-requires : goal.resized-requires
resized-requires c =
    let x = c.args.self.now in
    let d = held_demand x c.args.section c.requires.within.1 in
    let p = held_part x c.args.section c.requires.within.0 c.requires.within.1 in
    let f = held_figure x in
    let b = c.requires.one in
    record { part = omega (arith, ints); most = omega arith; small = omega (arith, ints) }

pub returns : goal.returns
returns c =
    let x = c.args.self.now in
    let was : ℤ = get_or x.demand c.args.section (pos 0) in
    let d = held_demand x c.args.section c.requires.within.1 in
    let b = c.requires.one in
    let kept : nat_abs (to_z w16 (of_z w16 was)) ≡ nat_abs was = ap nat_abs (let e : to_z w16 (of_z w16 was) ≡ was = omega (arith, ints) in e) in
    let new : ℤ = to_z w16 (of_z w16 (to_z w16 (of_z w16 was) +ℤ to_z w16 (of_z w16 c.args.by))) in
    let small : nat_abs new ≤ 1000 = omega (arith, ints) in
    let again : nat_abs (to_z w16 (of_z w16 new)) ≡ nat_abs new = ap nat_abs (let e : to_z w16 (of_z w16 new) ≡ new = omega (arith, ints) in e) in
    let r = c.resized.ensures in
    record { section = refl; demand = omega (arith, ints); figure = omega arith }
