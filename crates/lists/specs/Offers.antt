-- The plan beside its quote: what holds of a list of moves that the planner writes.
use Rattle.std.specs.Prelude.{◌≡◌, ◌≤◌, true, List, length, Ok, Err, Result}
use Rattle.refusal.specs.declared.Refusal.{Refusal}
use Rattle.motion.specs.declared.moves.Move.{Move}
use Rattle.motion.specs.Promises.{FillsFrom}
use Rattle.motion.specs.State.{State, figure}
use Rattle.tariff.specs.Rule.{Rule}
use Rattle.tariff.specs.Charges.{charged}
use Rattle.quoting.specs.Quote.{Quoted}
use Rattle.lists.specs.declared.list.List.{List as Slots}
use Rattle.lists.specs.declared.offer.Offer.{Offer}
use Rattle.lists.specs.Held.{held}
use Rattle.lists.specs.Plan.{Planned}
use Rattle.lists.specs.Check.{Checked}

-- a plan is a filling list, as long as the figure, which the check accepts, and its charge is the quote; no filling list
-- is shorter, and by the tariff's own comparison none is charged less
pub record PlanIsBest {S : Type 0} (rule : Rule S) (x : State) (ms : List Move) (quote : S) : Type 0 where
  pub fills : FillsFrom x ms
  pub long : length ms ≡ figure x
  pub accepted : Checked x ms (Ok (length ms))
  pub quoted : Quoted rule x (Ok quote)
  pub charge : quote ≡ charged rule ms
  pub none_shorter : (others : List Move) → FillsFrom x others → length ms ≤ length others
  pub none_cheaper : (others : List Move) → FillsFrom x others → rule.within quote (charged rule others) ≡ true

-- the plan is written, and it is the best; or it is refused as a plan is
abbrev pub Offered : {S : Type 0} → Rule S → State → Slots Move → Slots Move → Result (Offer S) Refusal → Type 0
Offered rule x before after (Ok o) = Planned x before after (Ok o.moves) × PlanIsBest rule x (held after) o.quote
Offered rule x before after (Err e) = Planned x before after (Err e)
