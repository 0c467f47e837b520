-- The balancing recursion makes moves that are due.
use Rattle.std.proofs.Common.{◌≡◌, ℕ, ◌+◌, ◌<◌, ◌≤◌, ◌⊎◌, List, [], ◌∷◌, ◌++◌, length, sym, inl, inr, arith, length-append, rules}
use Rattle.std.proofs.lemmas.Bool.{cases_lt}
use Rattle.motion.specs.declared.moves.Move.{Move}
use Rattle.motion.specs.Tree.{Tree, Branch, Below}
use Rattle.motion.specs.Demand.{figure_of}
use Rattle.motion.specs.Moves.{moved}
use Rattle.motion.specs.Visit.{Before, Unsettled, AllSettled}
use Rattle.motion.specs.declared.ways.Way.{Way}
use Rattle.motion.specs.Due.{FirstMove, Due}
use Rattle.motion.specs.Stepping.{Stepping, Turns, Next, Task, Balancing, Even}
use Rattle.motion.proofs.Order.{below_trans, branch_below, below_le, below_after, before_not_below, apart, Ahead, ahead}
use Rattle.motion.proofs.Serving.{Off, first_does}
use Rattle.motion.proofs.Hands.{Hands, shifts_hands}

-- due moves one after another
pub data Run (n : ℕ) (inner berths : List ℕ) : List ℕ → List Move → List ℕ → Type 0 where
  done : {wagons : List ℕ} → Run n inner berths wagons [] wagons
  due : {wagons end : List ℕ} {m : Move} {ms : List Move} → Due n inner wagons berths m → Run n inner berths (moved wagons m) ms end → Run n inner berths wagons (m ∷ ms) end

run_append : {n : ℕ} {inner berths wagons then end : List ℕ} {ms ns : List Move} → Run n inner berths wagons ms then → Run n inner berths then ns end → Run n inner berths wagons (ms ++ ns) end
run_append Run.done r = r
run_append (Run.due d q) r = Run.due d (run_append q r)

pub run_steps : {n : ℕ} {inner berths wagons end : List ℕ} {ms : List Move} → Run n inner berths wagons ms end → AllSettled n inner end berths → Stepping n inner berths wagons ms end
run_steps Run.done settled = Stepping.settled settled
run_steps (Run.due d r) settled = Stepping.step d (run_steps r settled)

-- moves at and below u: they are due, and touch nothing that does not lie below u
pub record Went (n : ℕ) (inner berths wagons : List ℕ) (u : ℕ) (ms : List Move) (end : List ℕ) : Type 0 where
  pub run : Run n inner berths wagons ms end
  pub even : Even n inner end berths
  pub fell : figure_of n inner end berths + length ms ≡ figure_of n inner wagons berths
  pub off : Off n inner berths wagons end u

went_none : {n : ℕ} {inner berths wagons : List ℕ} {u : ℕ} → Even n inner wagons berths → Went n inner berths wagons u [] wagons
went_none even = grind (arith, Run.done)

went_both : {n : ℕ} {inner berths wagons then end : List ℕ} {u : ℕ} {ms ns : List Move} → Went n inner berths wagons u ms then → Went n inner berths then u ns end → Went n inner berths wagons u (ms ++ ns) end
went_both {ms = ms} {ns = ns} a b = grind (arith, run_append, length-append)

-- what lies below a branch of u lies below u
pub went_up : {n : ℕ} {inner berths wagons end : List ℕ} {u v : ℕ} {ms : List Move} → Branch n inner u v → Went n inner berths wagons v ms end → Went n inner berths wagons u ms end
went_up b a = grind (arith, below_trans, branch_below b Below.itself)

-- nothing that comes before u is unsettled; nothing below u is
abbrev pub CalmBefore : ℕ → List ℕ → List ℕ → List ℕ → ℕ → Type 0
CalmBefore n inner berths wagons u = (t : ℕ) → t < n → Before n inner t u → Unsettled n inner wagons berths t → ⊥

abbrev pub Calm : ℕ → List ℕ → List ℕ → List ℕ → ℕ → Type 0
Calm n inner berths wagons u = (t : ℕ) → t < n → Below inner u t → Unsettled n inner wagons berths t → ⊥

-- moves at and below u leave what comes before it settled
pub calm_off : {n : ℕ} {inner berths wagons end : List ℕ} {u : ℕ} → Tree n inner → Off n inner berths wagons end u → CalmBefore n inner berths wagons u → CalmBefore n inner berths end u
calm_off {n} {inner} tree off calm t l bef un = calm t l bef (off t (before_not_below n inner tree l bef) un)

move_unsettled : {way : Way} {n : ℕ} {inner wagons berths : List ℕ} {u : ℕ} {m : Move} → FirstMove way n inner wagons berths u m → Unsettled n inner wagons berths u
move_unsettled {way} {n} {inner} {wagons} {berths} (FirstMove.straight {v = v} low o) = search rules
move_unsettled {way} {n} {inner} {wagons} {berths} (FirstMove.onward {v = v} low r f) = search rules

-- the moves of the first unsettled section are due
pub hands_went : {way : Way} {n : ℕ} {inner berths wagons end : List ℕ} {u : ℕ} {ms : List Move} → Hands way n inner berths wagons u ms end
    → Even n inner wagons berths → u < n → CalmBefore n inner berths wagons u → Went n inner berths wagons u ms end
hands_went Hands.done even l calm = went_none even
hands_went {way} {n} {inner} {berths} {wagons} {u = u} (Hands.hand {m = m} r f h) even l calm =
    let does = first_does way n inner wagons berths u m even r f in
    let one : Went n inner berths wagons u (m ∷ []) (moved wagons m) = search (rules, Run.due, Run.done, move_unsettled) in
    went_both one (hands_went h does.even l (calm_off even.tree does.off calm))

-- a section is balanced by due moves, and then settled
pub turns_went : {n : ℕ} {inner berths wagons end : List ℕ} {u : ℕ} {ms : List Move} → Turns n inner berths wagons u ms end
    → Even n inner wagons berths → u < n → CalmBefore n inner berths wagons u → Went n inner berths wagons u ms end × (Unsettled n inner end berths u → ⊥)
turns_went (Turns.settled s) even l calm = (went_none even, s)
turns_went (Turns.turn ready low s t) even l calm =
    let a = hands_went (shifts_hands s even low ready).0 even l calm in
    search (rules, turns_went t a.even l (calm_off even.tree a.off calm), went_both)

-- what a row finds: its section is settled, and so is all below the branches before it
pub record Found (n : ℕ) (inner berths wagons : List ℕ) (u from : ℕ) : Type 0 where
  pub settled : Unsettled n inner wagons berths u → ⊥
  pub lower : (k : ℕ) → k < from → Branch n inner u k → Calm n inner berths wagons k

abbrev pub Finds : ℕ → List ℕ → List ℕ → List ℕ → Task → Type 0
Finds n inner berths wagons (Task.whole u) = Unit {0}
Finds n inner berths wagons (Task.row u from) = Found n inner berths wagons u from

abbrev pub top : Task → ℕ
top (Task.whole u) = u
top (Task.row u from) = u

-- the row after its section was balanced
pub first_row : {n : ℕ} {inner berths wagons : List ℕ} {u : ℕ} → Tree n inner → (Unsettled n inner wagons berths u → ⊥) → Found n inner berths wagons u (u + 1)
first_row {n} {inner} tree settled = grind arith

-- the next branch of a row has all settled before it
pub before_next : {n : ℕ} {inner berths wagons : List ℕ} {u from v : ℕ} → Next n inner u from v → CalmBefore n inner berths wagons u → Found n inner berths wagons u from → CalmBefore n inner berths wagons v
before_next {from = from} next calm found t l bef un =
    elim (ahead next.branch bef) [
      | Ahead.sooner b ↦ calm t l b un
      | Ahead.itself e ↦ found.settled (rw e at un)
      | Ahead.lower k lt b under ↦ grind arith
    ]

-- and leaves what the rest of the row needs
pub after_next : {n : ℕ} {inner berths wagons end : List ℕ} {u from v : ℕ} → Tree n inner → Next n inner u from v → Found n inner berths wagons u from
    → Off n inner berths wagons end v → Calm n inner berths end v → Found n inner berths end u (v + 1)
after_next {n} {inner} {berths} {wagons} {end} {u} {from} {v} tree next found off calm = grind (arith, below_le n inner tree)

-- after the last branch all below the section is settled
row_calm : {n : ℕ} {inner berths wagons : List ℕ} {u from : ℕ} → Tree n inner → Found n inner berths wagons u from → ((k : ℕ) → from ≤ k → Branch n inner u k → ⊥) → Calm n inner berths wagons u
row_calm {n} {inner} {u = u} {from = from} tree found none t l r un = at (below_after n inner tree l r)
  where
    at : (u ≡ t) ⊎ Before n inner u t → ⊥
    at (inl e) = found.settled (rw (sym e) at un)
    at (inr (Before.above {c = c} b q)) =
        elim (cases_lt c from) [
          | inl f ↦ found.lower c f b t l q un
          | inr g ↦ none c g b
        ]
    at (inr (Before.beside ba bb ab ua ub)) = apart n inner tree ba bb ab (below_trans ua r) ub

pub tasks_went : {n : ℕ} {inner berths wagons end : List ℕ} {task : Task} {ms : List Move} → Balancing n inner berths wagons task ms end
    → Even n inner wagons berths → top task < n → CalmBefore n inner berths wagons (top task) → Finds n inner berths wagons task
    → Went n inner berths wagons (top task) ms end × Calm n inner berths end (top task)
tasks_went (Balancing.both turns rest) even l calm finds =
    let t = turns_went turns even l calm in
    search (rules, went_both, tasks_went rest t.0.even l (calm_off even.tree t.0.off calm) (first_row even.tree t.1))
tasks_went (Balancing.none none) even l calm found = (went_none even, row_calm even.tree found none)
tasks_went (Balancing.next next first rest) even l calm found =
    let f = tasks_went first even next.branch.within (before_next next calm found) tt in
    let up = went_up next.branch f.0 in
    search (rules, went_both, tasks_went rest up.even l (calm_off even.tree up.off calm) (after_next even.tree next found f.0.off f.1))
