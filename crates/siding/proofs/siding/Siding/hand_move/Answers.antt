use Rattle.std.proofs.Common.{◌≡◌, ◌+◌, ◌*◌, ◌≤◌, Bool, true, false, ltb, List, ℕ, set, sym, refl, ap, ◌∙◌, subst, arith, w16, SFits, to_z, of_z, rules}
use Rattle.std.proofs.lemmas.List.{length-set}
use Rattle.std.proofs.lemmas.Int.{to_z-of_z}
use mir.Val.{bool_byte}
use Rattle.motion.specs.Demand.{figure_of}
use Rattle.motion.specs.Moves.{one_if}
use Rattle.motion.specs.declared.moves.Move.{Move}
use Rattle.siding.specs.Kept.{Clear, TrueDemands}
use Rattle.siding.specs.Stands.{state_of}
use Rattle.siding.proofs.Handed.{moved_clear, moved_demands, moved_clear_demands, moved_page, hand_done, away_counted}
use Rattle.siding.proofs.siding.Siding.hand_move.Goals as goal

counted : (b : Bool) → bool_byte b ≡ one_if b
counted true = refl
counted false = refl

one_if_most : (b : Bool) → one_if b ≤ 1
one_if_most true = omega arith
one_if_most false = omega arith

pub invariant_of-next : goal.invariant_of-next
invariant_of-next c =
    let x = c.args.self.now in
    let m : Move = record { from = c.args.from; to = c.args.to } in
    let may = c.in_ok-may_move.ensures in
    let crossing = c.crossing-crossing.result in
    let crosses = c.crossing-crossing.ensures in
    let fits : SFits w16 crossing.demand = search rules in
    let same : to_z w16 (of_z w16 crossing.demand) ≡ crossing.demand = to_z-of_z w16 crossing.demand fits in
    let put = rw (c.from.ensures, c.from-2.ensures) at c.carry.ensures in
    let carried = sym put in
    let away = c.from-3.ensures ∙ counted (ltb x.figure crossing.figure) in
    record {
      long = length-set x.demand crossing.section _ ∙ x.long;
      clear = (subst (Clear x.track.sections) carried (moved_clear x m may.legal), x.clear.1);
      clear_demand = moved_clear_demands x m may.legal crossing crosses _ same;
      demands = subst (λ (w : List ℕ). TrueDemands x.track.sections x.track.inner w x.berths.in_section (set x.demand crossing.section (to_z w16 (of_z w16 crossing.demand)))) carried (moved_demands x m may.legal crossing crosses _ same);
      sums = crosses.figure ∙ ap (λ (w : List ℕ). figure_of x.track.sections x.track.inner w x.berths.in_section) carried;
      few = omega (arith, may.room);
      balances = moved_page x m may.legal crossing crosses ∙ ap (λ k. x.page.head + 2 * (x.page.away + k)) (sym away);
    }

pub returns : goal.returns
returns c =
    let x = c.args.self.now in
    let m : Move = record { from = c.args.from; to = c.args.to } in
    let crossing = c.crossing-crossing.result in
    let away = c.from-3.ensures ∙ counted (ltb x.figure crossing.figure) in
    hand_done x m c.in_ok-may_move.ensures crossing c.from-3.result c.crossing-crossing.ensures away _
    (ap (λ w. away_counted (state_of x) w (x.page.away + c.from-3.result)) (rw (c.from.ensures, c.from-2.ensures) at c.carry.ensures))
