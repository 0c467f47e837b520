-- What a siding that is drawn up from a sheet and acted on says, its quote included.
use Rattle.std.specs.Prelude.{◌≡◌, true, List, Ok, Err, Result}
use Rattle.refusal.specs.declared.Refusal.{Refusal}
use Rattle.refusal.specs.declared.Refusal.TheVariants.{NumbersDiffer}
use Rattle.motion.specs.State.{State, figure, EqualNumbers}
use Rattle.motion.specs.Promises.{FillsFrom}
use Rattle.motion.specs.declared.moves.Move.{Move}
use Rattle.tariff.specs.Rule.{Rule}
use Rattle.tariff.specs.Charges.{charged}
use Rattle.quoting.specs.Quote.{MovesDue}
use Rattle.quoting.specs.declared.account.Account.{Account}

-- The quote under a tariff: the moves due are a filling list, the sum is what they are charged, and by the tariff's own
-- comparison it is not more than the charge of any filling list.
pub record LeastCharge {S : Type 0} (rule : Rule S) (x : State) (sum : S) : Type 0 where
  pub moves_due : List Move
  pub due : MovesDue x moves_due
  pub fills : FillsFrom x moves_due
  pub charge : sum ≡ charged rule moves_due
  pub not_more : (ms : List Move) → FillsFrom x ms → rule.within sum (charged rule ms) ≡ true

-- it is quoted exactly where the numbers are equal, and else refused
abbrev pub QuoteIsLeast : {S : Type 0} → Rule S → State → Result S Refusal → Type 0
QuoteIsLeast rule x (Ok sum) = EqualNumbers x × LeastCharge rule x sum
QuoteIsLeast rule x (Err e) = (EqualNumbers x → ⊥) × (e ≡ NumbersDiffer)

-- What the siding says where it ends.
pub record Told {S : Type 0} (rule : Rule S) (x : State) (account : Account S) : Type 0 where
  pub figure_is : account.page.figure ≡ figure x
  pub head_is : account.page.head ≡ x.head
  pub moves_are : account.page.moves ≡ x.moves
  pub away_is : account.page.away ≡ x.away
  pub quote_is_least : QuoteIsLeast rule x account.quote

-- or why the sheet was refused
abbrev pub Answered : {S : Type 0} → Rule S → Result State Refusal → State → Result (Account S) Refusal → Type 0
Answered rule (Ok start) end (Ok account) = Told rule end account
Answered rule (Ok start) end (Err e) = ⊥
Answered rule (Err e) end (Ok account) = ⊥
Answered rule (Err e) end (Err f) = f ≡ e
