-- The bill: what the moves due come to, move by move.
use Rattle.std.specs.Prelude.{ℕ, List, [], ◌∷◌, Ok, Err, Result}
use Rattle.refusal.specs.declared.Refusal.{Refusal}
use Rattle.motion.specs.declared.moves.Move.{Move}
use Rattle.motion.specs.State.{State}
use Rattle.tariff.specs.Rule.{Rule}
use Rattle.tariff.specs.Charges.{charge_of}
use Rattle.quoting.specs.Quote.{Quoted}
use Rattle.lists.specs.declared.list.List.{List as Slots}
use Rattle.lists.specs.declared.writer.running.Running.{Running}
use Rattle.lists.specs.Held.{held}
use Rattle.lists.specs.Writing.{Writer}
use Rattle.lists.specs.Plan.{WritesDue}

-- the sum after a move, from the sum before it; and the sums after each of some moves
abbrev pub sum_after : {S : Type 0} → Rule S → S → Move → S
sum_after rule sum m = rule.plus sum (charge_of rule m)

abbrev pub running : {S : Type 0} → Rule S → S → List Move → List S
running rule sum [] = []
running rule sum (m ∷ ms) = sum_after rule sum m ∷ running rule (sum_after rule sum m) ms

-- the writer of these sums, by what its tariff means
abbrev pub sums_writer : {F S : Type 0} → (F → Rule S) → Writer (Running F S) S
sums_writer rule = record {
  entry = λ w m. sum_after (rule w.tariff.now) w.sum m;
  next = λ w m. record { tariff = w.tariff; sum = sum_after (rule w.tariff.now) w.sum m };
}

-- the bill: its entries are the sums after each of the moves due, which begin with nothing
abbrev pub Billed : {S : Type 0} → Rule S → State → Slots S → Slots S → Result ℕ Refusal → Type 0
Billed rule x before after r = WritesDue x (running rule rule.none) before after r

-- the last of some sums, or the one before them where there are none
abbrev pub last_of : {S : Type 0} → S → List S → S
last_of sum [] = sum
last_of sum (next ∷ rest) = last_of next rest

-- a bill that is written ends in the quote; where it has no entry, the quote is nothing
abbrev pub BillEndsInTheQuote : {S : Type 0} → Rule S → State → Slots S → Result ℕ Refusal → Type 0
BillEndsInTheQuote rule x after (Ok answer) = Quoted rule x (Ok (last_of rule.none (held after)))
BillEndsInTheQuote rule x after (Err e) = Unit {0}
