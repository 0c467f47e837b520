-- A wagon is shifted between a section and its lowest branch that asks, and the moves of that are written.
use Rattle.std.proofs.Common.{◌≡◌, ℕ, List, [], ◌∷◌, ◌++◌, None, sym, subst, arith}
use Rattle.motion.specs.declared.ways.Way.{Way}
use Rattle.motion.specs.Moves.{moved}
use Rattle.motion.specs.Due.{Ready, Open, over}
use Rattle.motion.specs.Stepping.{Shifts, Even}
use Rattle.motion.proofs.Asking.{asks_onward}
use Rattle.motion.proofs.Serving.{Served, nearer}
use Rattle.motion.proofs.Hands.{shifts_fell, waited}
use Rattle.siding.specs.declared.siding.Siding.{Siding}
use Rattle.siding.proofs.Held.{held_tree, one_berth}
use Rattle.lists.specs.declared.book.Book.{Book}
use Rattle.lists.specs.declared.planner.Planner.{Planner}
use Rattle.lists.specs.Writing.{Writer, Wrote, HasSlot}
use Rattle.lists.specs.Planner.{Asking, CanCarry}
use Rattle.lists.specs.Balanced.{Made, ShiftsAt, LowestAt, HasRoom}
use Rattle.lists.proofs.Writes.{wrote_both, room_left}

-- the same of a planner of that siding
pub can_carry : (way : Way) (p : Planner) (u v : ℕ) (x : Siding) → p.siding.now ≡ x → Served way x.track.sections x.track.inner p.wagons x.berths.in_section u v → CanCarry way p u v
can_carry way p u v x is served =
    let s = subst (λ y. Served way y.track.sections y.track.inner p.wagons y.berths.in_section u v) (sym is) served in
    record { branch = s.branch; asks = s.asks; ready = s.ready; opened = s.opened }

pub shifts_on : {W E : Type 0} {writer : Writer W E} {b b' : Book W E} {then : List ℕ} (way : Way) (u v : ℕ) (y x : Siding) (ws wagons : List ℕ) → y ≡ x → ws ≡ wagons
    → Made writer (ShiftsAt y way ws u v) b then b' → Made writer (ShiftsAt x way wagons u v) b then b'
shifts_on {writer = writer} {b} {b'} {then} way u v y x ws wagons e f made =
    subst (λ z. Made writer (ShiftsAt z way wagons u v) b then b') e (subst (λ zs. Made writer (ShiftsAt y way zs u v) b then b') f made)

module _ {W E : Type 0} (writer : Writer W E) (x : Siding) (wagons : List ℕ) (even : Even x.track.sections x.track.inner wagons x.berths.in_section) (way : Way) (u v : ℕ)
    (low : LowestAt x way wagons u v) (ready : Ready way wagons u) where
  -- the branch is open: straight
  module _ (opened : Open way wagons v) where
    pub served : Served way x.track.sections x.track.inner wagons x.berths.in_section u v
    served = record { branch = low.branch; asks = low.asks; ready = ready; opened = opened }

    pub has_slot : (b : Book W E) → HasRoom x wagons b → HasSlot b
    has_slot b room = omega (arith, (nearer way x.track.sections x.track.inner wagons x.berths.in_section u v even served).fell)

    pub straight : {b b' : Book W E} (then : List ℕ) → then ≡ moved wagons (over way u v) → Wrote writer b (over way u v ∷ []) b' → Made writer (ShiftsAt x way wagons u v) b then b'
    straight then is wrote = record {
      moves = over way u v ∷ [];
      does = subst (ShiftsAt x way wagons u v (over way u v ∷ [])) (sym is) (Shifts.straight opened);
      wrote = wrote;
    }

  -- it is not: then it has a branch that asks
  module _ (waits : Ready way wagons v) where
    pub some_asks : Asking x wagons way v None → ⊥
    some_asks none =
        let some = asks_onward x.track.sections x.track.inner wagons x.berths.in_section (held_tree x) (one_berth x) way v low.branch.within waits low.asks in
        none some.0 some.1.branch some.1.asks

    -- and after the same with that branch t, the move can be made
    module _ (t : ℕ) (next : LowestAt x way wagons v t) (then : List ℕ) {b b' : Book W E} (made : Made writer (ShiftsAt x way wagons v t) b then b') where
      pub served_after : Served way x.track.sections x.track.inner then x.berths.in_section u v
      served_after = waited made.does even next waits low ready

      pub slot_after : Even x.track.sections x.track.inner then x.berths.in_section → HasRoom x wagons b → HasSlot b'
      slot_after still room =
          let left = room_left writer x wagons then made (shifts_fell made.does even next waits) room in
          omega (arith, (nearer way x.track.sections x.track.inner then x.berths.in_section u v still served_after).fell)

      pub after : {b'' : Book W E} (end : List ℕ) → end ≡ moved then (over way u v) → Wrote writer b' (over way u v ∷ []) b'' → Made writer (ShiftsAt x way wagons u v) b end b''
      after end is wrote = record {
        moves = made.moves ++ over way u v ∷ [];
        does = subst (ShiftsAt x way wagons u v (made.moves ++ over way u v ∷ [])) (sym is) (Shifts.after waits next made.does);
        wrote = wrote_both writer made.moves (over way u v ∷ []) made.wrote wrote;
      }
