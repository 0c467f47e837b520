-- The plan that is written is the best there is.
use Rattle.std.proofs.Common.{◌≡◌, ℕ, length, take, Ok, sym, refl, ap, ◌∙◌, subst, arith}
use Rattle.std.proofs.lemmas.List.{take_at}
use Rattle.motion.specs.declared.moves.Move.{Move}
use Rattle.motion.specs.Promises.{FillsFrom}
use Rattle.motion.proofs.StepsEnd.{one_stepping}
use Rattle.motion.proofs.Promised.{least}
use Rattle.tariff.specs.Rule.{Rule, Laws}
use Rattle.siding.specs.declared.siding.Siding.{Siding}
use Rattle.siding.specs.Stands.{state_of}
use Rattle.quoting.specs.Quote.{Quoted}
use Rattle.planning.proofs.Kept.{sound}
use Rattle.quoting.proofs.Quotes.{quote_least}
use Rattle.lists.specs.declared.list.List.{List as Slots}
use Rattle.lists.specs.Held.{held}
use Rattle.lists.specs.Plan.{DueWritten}
use Rattle.lists.specs.Offers.{PlanIsBest}

module _ {S : Type 0} (rule : Rule S) (laws : Laws rule) (x : Siding) (before after : Slots Move) (answer : ℕ) (plan : DueWritten (state_of x) (λ ms. ms) before after answer) where
  -- the entries are the moves due
  held_due : held after ≡ plan.moves
  held_due = ap (take after.len) plan.written.slots ∙ take_at plan.moves _ after.len (sym plan.written.len)

  pub best : (quote : S) → Quoted rule (state_of x) (Ok quote) → PlanIsBest rule (state_of x) (held after) quote
  best quote q =
      let charge = quote_least rule x laws (Ok quote) q in
      let of = charge.1 in
      let steps = one_stepping x.track.sections x.track.inner x.wagons.in_section x.berths.in_section of.moves_due plan.moves of.due.0 plan.due.0 (sound x).tree of.due.1 plan.due.1 in
      let same : of.moves_due ≡ held after = steps.0 ∙ sym held_due in
      let fills : FillsFrom (state_of x) (held after) = subst (FillsFrom (state_of x)) same of.fills in
      let long = ap length held_due ∙ plan.count in
      record {
        fills = fills;
        long = long;
        accepted = (charge.0, fills, refl);
        quoted = q;
        charge = rw same at of.charge;
        none_shorter = λ others filled.
            let l = (least (state_of x) (sound x) charge.0).none_shorter others filled in
            omega arith;
        none_cheaper = of.not_more;
      }
