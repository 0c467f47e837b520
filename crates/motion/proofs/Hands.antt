-- The moves of one section, one after another: a wagon that is shifted for a branch is shifted for each section that waits for it.
use Rattle.std.proofs.Common.{◌≡◌, ℕ, ◌+◌, List, [], ◌∷◌, ◌++◌, length, get_or, arith, rules}
use Rattle.motion.specs.declared.moves.Move.{Move}
use Rattle.motion.specs.Demand.{demand_of, figure_of}
use Rattle.motion.specs.Moves.{moved}
use Rattle.motion.specs.declared.ways.Way.{Way}
use Rattle.motion.specs.declared.ways.Way.TheVariants.{Outward, Inward}
use Rattle.motion.specs.Due.{Asks, Ready, Open, LowestAsking, FirstMove}
use Rattle.motion.specs.Stepping.{Shifts, Even}
use Rattle.motion.proofs.Order.{branch_up}
use Rattle.motion.proofs.Serving.{Served, nearer, first_does}

-- first moves of u, one after another, u being ready before each
pub data Hands (way : Way) (n : ℕ) (inner berths : List ℕ) : List ℕ → ℕ → List Move → List ℕ → Type 0 where
  done : {wagons : List ℕ} {u : ℕ} → Hands way n inner berths wagons u [] wagons
  hand : {wagons end : List ℕ} {u : ℕ} {m : Move} {ms : List Move} → Ready way wagons u → FirstMove way n inner wagons berths u m
      → Hands way n inner berths (moved wagons m) u ms end → Hands way n inner berths wagons u (m ∷ ms) end

hands_push : {way : Way} {n : ℕ} {inner berths wagons then : List ℕ} {u : ℕ} {m : Move} {ms : List Move} → Hands way n inner berths wagons u ms then
    → Ready way then u → FirstMove way n inner then berths u m → Hands way n inner berths wagons u (ms ++ m ∷ []) (moved then m)
hands_push Hands.done ready first = Hands.hand ready first Hands.done
hands_push (Hands.hand r f h) ready first = Hands.hand r f (hands_push h ready first)

asks_same : (way : Way) (n : ℕ) (inner berths wagons after : List ℕ) (k : ℕ) → demand_of n inner after berths k ≡ demand_of n inner wagons berths k → Asks way n inner wagons berths k → Asks way n inner after berths k
asks_same Outward n inner berths wagons after k e a = rw e a
asks_same Inward n inner berths wagons after k e a = rw e a

ready_same : (way : Way) (wagons after : List ℕ) (k : ℕ) → get_or after k 0 ≡ get_or wagons k 0 → Ready way wagons k → Ready way after k
ready_same Outward wagons after k e r = rw e r
ready_same Inward wagons after k e r = rw e r

-- moves of a branch v that u waits for are moves of u, and v is still its lowest branch that asks
record Lifted (way : Way) (n : ℕ) (inner berths wagons : List ℕ) (u v : ℕ) (ms : List Move) (end : List ℕ) : Type 0 where
  hands : Hands way n inner berths wagons u ms end
  low : LowestAsking way n inner end berths u v
  ready : Ready way end u
  even : Even n inner end berths

lift : {way : Way} {n : ℕ} {inner berths wagons end : List ℕ} {u v : ℕ} {ms : List Move} → Hands way n inner berths wagons v ms end
    → Even n inner wagons berths → LowestAsking way n inner wagons berths u v → Ready way wagons u → Lifted way n inner berths wagons u v ms end
lift Hands.done even low ready = search (rules, Hands.done)
lift {way} {n} {inner} {berths} {wagons} {u = u} {v = v} (Hands.hand {m = m} r f h) even low ready =
    let does = first_does way n inner wagons berths v m even r f in
    let up = branch_up n inner even.tree low.branch in
    let low' : LowestAsking way n inner (moved wagons m) berths u v = grind (arith, asks_same way n inner berths) in
    let rest = lift h does.even low' (ready_same way wagons (moved wagons m) u (does.holds u up) ready) in
    search (rules, Hands.hand, FirstMove.onward)

-- a wagon that is shifted between u and its lowest branch that asks: moves of u, which is open after them
pub shifts_hands : {way : Way} {n : ℕ} {inner berths wagons end : List ℕ} {u v : ℕ} {ms : List Move} → Shifts way n inner berths wagons u v ms end
    → Even n inner wagons berths → LowestAsking way n inner wagons berths u v → Ready way wagons u → Hands way n inner berths wagons u ms end × Open way end u
shifts_hands {way} {n} {inner} {berths} {wagons} {u = u} {v = v} (Shifts.straight opened) even low ready = search (rules, Hands.hand, FirstMove.straight, Hands.done)
shifts_hands {way} {n} {inner} {berths} {u = u} {v = v} (Shifts.after {then = then} r low' s) even low ready =
    let on = shifts_hands s even low' r in
    let up = lift on.0 even low ready in
    search (rules, hands_push, FirstMove.straight, nearer)

hands_fell : {way : Way} {n : ℕ} {inner berths wagons end : List ℕ} {u : ℕ} {ms : List Move} → Hands way n inner berths wagons u ms end → Even n inner wagons berths
    → figure_of n inner end berths + length ms ≡ figure_of n inner wagons berths
hands_fell Hands.done even = omega arith
hands_fell {way} {n} {inner} {berths} {wagons} {u = u} (Hands.hand {m = m} r f h) even = grind (arith, hands_fell h, first_does)

-- the figure falls by as many as the moves are
pub shifts_fell : {way : Way} {n : ℕ} {inner berths wagons end : List ℕ} {u v : ℕ} {ms : List Move} → Shifts way n inner berths wagons u v ms end
    → Even n inner wagons berths → LowestAsking way n inner wagons berths u v → Ready way wagons u → figure_of n inner end berths + length ms ≡ figure_of n inner wagons berths
shifts_fell s even low ready = hands_fell (shifts_hands s even low ready).0 even

-- once its branch v has done so with its own, u and v are ready and open for the move between them
pub waited : {way : Way} {n : ℕ} {inner berths wagons then : List ℕ} {u v x : ℕ} {ms : List Move} → Shifts way n inner berths wagons v x ms then → Even n inner wagons berths
    → LowestAsking way n inner wagons berths v x → Ready way wagons v → LowestAsking way n inner wagons berths u v → Ready way wagons u → Served way n inner then berths u v
waited s even low' r low ready = grind (arith, shifts_hands, lift)
