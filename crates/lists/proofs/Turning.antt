-- A section is settled turn by turn, and the moves of that are written.
use Rattle.std.proofs.Common.{◌≡◌, ℕ, ◌<◌, List, [], ◌++◌, None, sym, subst, arith}
use Rattle.std.proofs.lemmas.List.{append_assoc}
use Rattle.motion.specs.declared.moves.Move.{Move}
use Rattle.motion.specs.declared.ways.Way.{Way}
use Rattle.motion.specs.Visit.{Unsettled}
use Rattle.motion.specs.Due.{Ready}
use Rattle.motion.specs.Stepping.{Turns, Even}
use Rattle.motion.proofs.Asking.{unsettled_asks}
use Rattle.motion.proofs.DueMoves.{first_zero}
use Rattle.motion.proofs.Hands.{shifts_hands}
use Rattle.motion.proofs.Went.{Went, calm_off, hands_went}
use Rattle.motion.proofs.Plans.{some_move}
use Rattle.siding.specs.declared.siding.Siding.{Siding}
use Rattle.siding.proofs.Held.{held_tree, one_berth}
use Rattle.lists.specs.declared.book.Book.{Book}
use Rattle.lists.specs.Writing.{Writer}
use Rattle.lists.specs.Planner.{Asking}
use Rattle.lists.specs.Balanced.{Made, ShiftsAt, TurnsAt, LowestAt, figure_at, HasRoom, SettledBefore}
use Rattle.lists.proofs.Writes.{wrote_none, made_both, room_left}

-- the turns so far: with those that are left, they are all turns
abbrev pub TurnsOn : Siding → List ℕ → ℕ → List Move → List ℕ → Type 0
TurnsOn x wagons u ms then = (ns : List Move) (end : List ℕ) → TurnsAt x then u ns end → TurnsAt x wagons u (ms ++ ns) end

module _ {W E : Type 0} (writer : Writer W E) (x : Siding) (u : ℕ) (l : u < x.track.sections) (wagons : List ℕ) (even : Even x.track.sections x.track.inner wagons x.berths.in_section) (before : SettledBefore x wagons u)
    (way : Way) (ready : Ready way wagons u) where
  -- one turn
  module _ (v : ℕ) (low : LowestAt x way wagons u v) {b b' : Book W E} {then : List ℕ} (made : Made writer (ShiftsAt x way wagons u v) b then b') where
    went : Went x.track.sections x.track.inner x.berths.in_section wagons u made.moves then
    went = hands_went (shifts_hands made.does even low ready).0 even l before

    pub fewer : figure_at x then < figure_at x wagons
    fewer = omega (arith, went.fell, some_move made.does)

    -- what it leaves
    pub turned : {b₀ : Book W E} {start : List ℕ} → HasRoom x wagons b → Made writer (TurnsOn x start u) b₀ wagons b
        → SettledBefore x then u × Made writer (TurnsOn x start u) b₀ then b' × HasRoom x then b'
    turned room sofar = (
      calm_off (held_tree x) went.off before,
      made_both writer sofar made (λ ns end t. rw append_assoc (sofar.does (made.moves ++ ns) end (Turns.turn ready low made.does t))),
      room_left writer x wagons then made went.fell room,
    )

  -- and the last: no branch asks the way that the section can hand on
  settled : Asking x wagons way u None → Unsettled x.track.sections x.track.inner wagons x.berths.in_section u → ⊥
  settled none un =
      let zero = first_zero x.track.sections x.track.inner wagons x.berths.in_section even u l before in
      let low = unsettled_asks x.track.sections x.track.inner wagons x.berths.in_section (held_tree x) (one_berth x) way u l ready zero un in
      none low.0 low.1.branch low.1.asks

  pub all_turns : {b₀ b : Book W E} {start : List ℕ} (same : List ℕ) → same ≡ wagons → Asking x wagons way u None
      → Made writer (TurnsOn x start u) b₀ wagons b → Made writer (TurnsAt x start u) b₀ same b
  all_turns {b = b} {start = start} same is none sofar =
      made_both writer {Q = λ ms then. Unit {0}} {wagons' = same} sofar (record { moves = []; does = tt; wrote = wrote_none writer b })
      (subst (TurnsAt x start u (sofar.moves ++ [])) (sym is) (sofar.does [] wagons (Turns.settled (settled none))))
