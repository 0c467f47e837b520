-- The quote: the joined charge of the moves due.
use Rattle.std.specs.Prelude.{◌≡◌, ℕ, List, ℤ, Ok, Err, Result}
use Rattle.refusal.specs.declared.Refusal.{Refusal}
use Rattle.refusal.specs.declared.Refusal.TheVariants.{NumbersDiffer}
use Rattle.motion.specs.State.{State, EqualNumbers}
use Rattle.motion.specs.Stepping.{Stepping}
use Rattle.motion.specs.declared.moves.Move.{Move}
use Rattle.motion.specs.Due.{asked_for}
use Rattle.motion.specs.declared.ways.Way.{Way}
use Rattle.motion.specs.declared.ways.Way.TheVariants.{Outward, Inward}
use Rattle.tariff.specs.Rule.{Rule}
use Rattle.tariff.specs.Charges.{charged, times}

-- the moves that stepping makes until none is due
abbrev pub MovesDue : State → List Move → Type 0
MovesDue x ms = (end : List ℕ) × Stepping x.sections x.inner x.berths x.wagons ms end

-- with equal numbers the quote is the charge of the moves due; else it is refused
abbrev pub Quoted : {S : Type 0} → Rule S → State → Result S Refusal → Type 0
Quoted rule x (Ok sum) = EqualNumbers x × ((ms : List Move) × (MovesDue x ms × (sum ≡ charged rule ms)))
Quoted rule x (Err e) = (EqualNumbers x → ⊥) × (e ≡ NumbersDiffer)

-- what a section with this demand is charged for the moves of one way: it is crossed as often as the demand asks for
abbrev pub one_way : {S : Type 0} → Rule S → ℕ → Way → ℤ → S
one_way rule s way demand = times rule (rule.cost s way) (asked_for way demand)

-- and for all: those outward, as often as wagons are missing below it, and those inward, as often as they are spare
abbrev pub share : {S : Type 0} → Rule S → ℕ → ℤ → S
share rule s demand = rule.plus (one_way rule s Outward demand) (one_way rule s Inward demand)
