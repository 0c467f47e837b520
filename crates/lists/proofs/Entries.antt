-- What the writers of the plan and of the bill write for the moves due.
use Rattle.std.proofs.Common.{◌≡◌, ℕ, List, [], ◌∷◌, take, Ok, Err, Result, sym, refl, ap, ◌∙◌, subst}
use Rattle.std.proofs.lemmas.List.{take_at}
use Rattle.refusal.specs.declared.Refusal.{Refusal}
use Rattle.motion.specs.declared.moves.Move.{Move}
use Rattle.motion.specs.State.{State}
use Rattle.tariff.specs.Rule.{Rule}
use Rattle.tariff.specs.Charges.{joined_from}
use Rattle.lists.specs.declared.list.List.{List as Slots}
use Rattle.lists.specs.declared.writer.running.Running.{Running}
use Rattle.lists.specs.Held.{held}
use Rattle.lists.specs.Writing.{entries, moves_writer}
use Rattle.lists.specs.Plan.{Written, WritesDue}
use Rattle.lists.specs.Bill.{sum_after, running, sums_writer, last_of, BillEndsInTheQuote}

-- the same entries under another name
pub written_as : {E : Type 0} (x : State) (f g : List Move → List E) → ((ms : List Move) → f ms ≡ g ms) → (before after : Slots E) (r : Result ℕ Refusal) → WritesDue x f before after r → WritesDue x g before after r
written_as x f g same before after (Ok answer) d = record {
  equal = d.equal;
  room = d.room;
  moves = d.moves;
  due = d.due;
  count = d.count;
  answers = d.answers;
  written = subst (λ es. Written es before after) (same d.moves) d.written;
}
written_as x f g same before after (Err e) d = d

pub moves_themselves : {W : Type 0} (w : W) (ms : List Move) → entries moves_writer w ms ≡ ms
moves_themselves w [] = refl
moves_themselves w (m ∷ ms) = ap (λ rest. m ∷ rest) (moves_themselves w ms)

pub sums_running : {F S : Type 0} (rule : F → Rule S) (w : Running F S) (ms : List Move) → entries (sums_writer rule) w ms ≡ running (rule w.tariff.now) w.sum ms
sums_running rule w [] = refl
sums_running rule w (m ∷ ms) = ap (λ rest. sum_after (rule w.tariff.now) w.sum m ∷ rest) (sums_running rule (record { tariff = w.tariff; sum = sum_after (rule w.tariff.now) w.sum m }) ms)

-- the last of the running sums is what all moves come to
last_running : {S : Type 0} (rule : Rule S) (sum : S) (ms : List Move) → last_of sum (running rule sum ms) ≡ joined_from rule sum ms
last_running rule sum [] = refl
last_running rule sum (m ∷ ms) = last_running rule (sum_after rule sum m) ms

pub ends_in_quote : {S : Type 0} (rule : Rule S) (x : State) (before after : Slots S) (r : Result ℕ Refusal) → WritesDue x (running rule rule.none) before after r → BillEndsInTheQuote rule x after r
ends_in_quote rule x before after (Ok answer) d =
    let held_is : held after ≡ running rule rule.none d.moves =
    ap (take after.len) d.written.slots ∙ take_at (running rule rule.none d.moves) _ after.len (sym d.written.len) in
    (d.equal, (d.moves, (d.due, ap (last_of rule.none) held_is ∙ last_running rule rule.none d.moves)))
ends_in_quote rule x before after (Err e) d = tt
