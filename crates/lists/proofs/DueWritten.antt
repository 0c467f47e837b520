-- The whole of the recursion, from the neck, writes the moves due.
use Rattle.std.proofs.Common.{◌≡◌, ℕ, ◌+◌, ◌≤◌, List, ◌++◌, length, drop, sym, ap, ◌∙◌, subst, arith}
use Rattle.std.proofs.lemmas.List.{length-take-le}
use Rattle.motion.specs.State.{figure}
use Rattle.motion.specs.Stepping.{Stepping, Task, Even}
use Rattle.motion.proofs.StepsEnd.{stepping_fills}
use Rattle.motion.proofs.Plans.{calm_neck, steps_are_the_plan}
use Rattle.siding.specs.declared.siding.Siding.{Siding}
use Rattle.siding.specs.Stands.{state_of}
use Rattle.lists.specs.declared.book.Book.{Book}
use Rattle.lists.specs.declared.list.List.{List as Slots}
use Rattle.lists.specs.declared.planner.Planner.{Planner}
use Rattle.lists.specs.Held.{held}
use Rattle.lists.specs.Writing.{Writer, entries, slots_after}
use Rattle.lists.specs.Balanced.{Made, BalancingAt, SettledBefore}
use Rattle.lists.specs.Plan.{DueWritten}
use Rattle.lists.proofs.Asks.{even, even_on}
use Rattle.lists.proofs.Writes.{length_entries, slots_after_are}

-- the recursion may begin at the neck
pub starts_settled : (p : Planner) → SettledBefore p.siding.now p.wagons 0
starts_settled p = calm_neck p.siding.now.track.sections p.siding.now.track.inner p.wagons p.siding.now.berths.in_section (even p)

-- and what it writes are the entries of the moves due
module _ (x : Siding) (p : Planner) (on : p.siding.now ≡ x) (stand : p.wagons ≡ x.wagons.in_section) {W E : Type 0} (writer : Writer W E) (list : Slots E) {b then : Book W E} (none : b.list.now.len ≡ 0) (same : b.list.now.slots.now ≡ list.slots.now)
    (room : figure (state_of x) ≤ length list.slots.now) {end : List ℕ} (made : Made writer (BalancingAt p.siding.now p.wagons (Task.whole 0)) b end then) where
  begins : Even x.track.sections x.track.inner x.wagons.in_section x.berths.in_section
  begins = subst (λ ws. Even x.track.sections x.track.inner ws x.berths.in_section) stand (even_on p x on)

  due : Stepping x.track.sections x.track.inner x.berths.in_section x.wagons.in_section made.moves end
  due =
      (steps_are_the_plan x.track.sections x.track.inner x.wagons.in_section x.berths.in_section made.moves end begins).1
      (subst (λ ws. BalancingAt x ws (Task.whole 0) made.moves end) stand (subst (λ y. BalancingAt y p.wagons (Task.whole 0) made.moves end) on made.does))

  count : length made.moves ≡ figure (state_of x)
  count = (stepping_fills x.track.sections x.track.inner x.wagons.in_section x.berths.in_section made.moves end begins due).count

  long : then.list.now.len ≡ length made.moves
  long = omega (arith, made.wrote.len)

  slots : then.list.now.slots.now ≡ entries writer b.writer.now made.moves ++ drop (length (entries writer b.writer.now made.moves)) list.slots.now
  slots =
      made.wrote.slots
      ∙ ap (λ k. slots_after writer b.writer.now k b.list.now.slots.now made.moves) none
      ∙ ap (λ s. slots_after writer b.writer.now 0 s made.moves) same
      ∙ slots_after_are writer b.writer.now 0 list.slots.now made.moves (omega (arith, count))
      ∙ ap (λ k. entries writer b.writer.now made.moves ++ drop k list.slots.now) (let e : 0 + length made.moves ≡ length (entries writer b.writer.now made.moves) = omega (arith, length_entries writer b.writer.now made.moves) in e)

  pub writes_due : (answer : ℕ) → answer ≡ length (held then.list.now) → (after : Slots E) → after ≡ then.list.now → DueWritten (state_of x) (entries writer b.writer.now) list after answer
  writes_due answer is_length after is = subst (λ l. DueWritten (state_of x) (entries writer b.writer.now) list l answer) (sym is) (record {
    equal = begins.equal;
    room = room;
    moves = made.moves;
    due = (end, due);
    count = count;
    answers = is_length ∙ length-take-le then.list.now.len then.list.now.slots.now then.list.now.fits ∙ long;
    written = record { len = long ∙ sym (length_entries writer b.writer.now made.moves); slots = slots };
  })
