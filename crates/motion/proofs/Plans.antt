-- With equal numbers the balancing recursion comes to an end, and its moves are those of stepping.
use Rattle.std.proofs.Common.{ℕ, zero, suc, ◌+◌, ◌-◌, ◌<◌, ◌≤◌, ◌⊎◌, List, [], ◌∷◌, ◌++◌, length, inl, inr, arith, length-append, rules}
use Rattle.motion.specs.declared.moves.Move.{Move}
use Rattle.motion.specs.Tree.{Branch}
use Rattle.motion.specs.Demand.{figure_of}
use Rattle.motion.specs.Moves.{moved}
use Rattle.motion.specs.declared.ways.Way.{Way}
use Rattle.motion.specs.Due.{Ready, over, LowestAsking}
use Rattle.motion.specs.Stepping.{Stepping, Shifts, Turns, Next, Task, Balancing, Even}
use Rattle.motion.proofs.Order.{branch_up, below_the_neck}
use Rattle.motion.proofs.Least.{least}
use Rattle.motion.proofs.Asking.{ready_or_open, some_way, unsettled_or_not, asks_onward, unsettled_asks}
use Rattle.motion.proofs.DueMoves.{first_zero}
use Rattle.motion.proofs.StepsEnd.{one_stepping}
use Rattle.motion.proofs.Hands.{shifts_hands}
use Rattle.motion.proofs.Went.{run_steps, CalmBefore, calm_off, hands_went, turns_went, Finds, top, first_row, before_next, after_next, tasks_went, went_up}

-- a wagon can be shifted between a section and its lowest branch that asks
shifts : (way : Way) (n : ℕ) (inner wagons berths : List ℕ) → Even n inner wagons berths → (k u v : ℕ) → n ≤ v + k → LowestAsking way n inner wagons berths u v
    → (ms : List Move) × (end : List ℕ) × Shifts way n inner berths wagons u v ms end
shifts way n inner wagons berths even zero u v le low =
    let z : ⊥ = omega (arith, low.branch.within) in
    absurd z
shifts way n inner wagons berths even (suc k) u v le low =
    elim (ready_or_open way wagons v) [
      | inl ready ↦
          let next = asks_onward n inner wagons berths even.tree even.one_berth way v low.branch.within ready low.asks in
          let up = branch_up n inner even.tree next.1.branch in
          let s = shifts way n inner wagons berths even k v next.0 (omega arith) next.1 in
          (s.0 ++ over way u v ∷ [], moved s.1 (over way u v), Shifts.after ready next.1 s.2)
      | inr opened ↦ (over way u v ∷ [], moved wagons (over way u v), Shifts.straight opened)
    ]

pub some_move : {way : Way} {n : ℕ} {inner berths wagons end : List ℕ} {u v : ℕ} {ms : List Move} → Shifts way n inner berths wagons u v ms end → 0 < length ms
some_move (Shifts.straight o) = omega arith
some_move {way} {u = u} {v = v} (Shifts.after {ms = ms} r low s) = grind (arith, length-append)

-- a section can be balanced, where all before it is settled: each turn lowers the figure
abbrev SomeTurns : ℕ → List ℕ → List ℕ → List ℕ → ℕ → Type 0
SomeTurns n inner berths wagons u = (ms : List Move) × (end : List ℕ) × Turns n inner berths wagons u ms end

one_turn : {way : Way} {n : ℕ} {inner berths wagons then : List ℕ} {u v : ℕ} {ms : List Move} → Ready way wagons u → LowestAsking way n inner wagons berths u v
    → Shifts way n inner berths wagons u v ms then → SomeTurns n inner berths then u → SomeTurns n inner berths wagons u
one_turn {ms = ms} ready low s rest = (ms ++ rest.0, rest.1, Turns.turn ready low s rest.2)

turns : (n : ℕ) (inner berths : List ℕ) (u : ℕ) → u < n → (k : ℕ) (wagons : List ℕ) → Even n inner wagons berths → CalmBefore n inner berths wagons u → figure_of n inner wagons berths < k
    → SomeTurns n inner berths wagons u
turns n inner berths u l zero wagons even calm le = let z : ⊥ = omega arith in absurd z
turns n inner berths u l (suc k) wagons even calm le =
    elim (unsettled_or_not n inner wagons berths u) [
      | inl un ↦
          let way = some_way wagons u in
          let low = unsettled_asks n inner wagons berths even.tree even.one_berth way.0 u l way.1 (first_zero n inner wagons berths even u l calm) un in
          let s = shifts way.0 n inner wagons berths even n u low.0 (omega arith) low.1 in
          let a = hands_went (shifts_hands s.2 even low.1 way.1).0 even l calm in
          one_turn way.1 low.1 s.2 (turns n inner berths u l k s.1 a.even (calm_off even.tree a.off calm) (omega (arith, a.fell, some_move s.2)))
      | inr settled ↦ ([], wagons, Turns.settled settled)
    ]

next_or_none : (n : ℕ) (inner : List ℕ) (u from : ℕ) → ((v : ℕ) × Next n inner u from v) ⊎ ((k : ℕ) → from ≤ k → Branch n inner u k → ⊥)
next_or_none n inner u from = grind (arith, least (λ k. (from ≤ k) × Branch n inner u k) (λ k. grind arith) n)

abbrev SomeBalancing : ℕ → List ℕ → List ℕ → List ℕ → Task → Type 0
SomeBalancing n inner berths wagons task = (ms : List Move) × (end : List ℕ) × Balancing n inner berths wagons task ms end

then_row : {n : ℕ} {inner berths wagons then : List ℕ} {u : ℕ} {ms : List Move} → Turns n inner berths wagons u ms then → SomeBalancing n inner berths then (Task.row u (u + 1))
    → SomeBalancing n inner berths wagons (Task.whole u)
then_row {ms = ms} t rest = (ms ++ rest.0, rest.1, Balancing.both t rest.2)

then_rest : {n : ℕ} {inner berths wagons then : List ℕ} {u from v : ℕ} {ms : List Move} → Next n inner u from v → Balancing n inner berths wagons (Task.whole v) ms then
    → SomeBalancing n inner berths then (Task.row u (v + 1)) → SomeBalancing n inner berths wagons (Task.row u from)
then_rest {ms = ms} next first rest = (ms ++ rest.0, rest.1, Balancing.next next first rest.2)

-- how much of a task there can be
abbrev weight : ℕ → Task → ℕ
weight n (Task.whole u) = (n - u) + (n - u)
weight n (Task.row u from) = (n - from) + (n - from) + 1

-- every task can be done
balancing : (n : ℕ) (inner berths : List ℕ) (k : ℕ) (task : Task) (wagons : List ℕ) → Even n inner wagons berths → top task < n → CalmBefore n inner berths wagons (top task)
    → Finds n inner berths wagons task → weight n task < k → SomeBalancing n inner berths wagons task
balancing n inner berths zero task wagons even l calm finds le = let z : ⊥ = omega arith in absurd z
balancing n inner berths (suc k) (Task.whole u) wagons even l calm finds le =
    let t = turns n inner berths u l (figure_of n inner wagons berths + 1) wagons even calm (omega arith) in
    let a = turns_went t.2 even l calm in
    then_row t.2 (balancing n inner berths k (Task.row u (u + 1)) t.1 a.0.even l (calm_off even.tree a.0.off calm) (first_row even.tree a.1) (omega arith))
balancing n inner berths (suc k) (Task.row u from) wagons even l calm found le =
    elim (next_or_none n inner u from) [
      | inl f ↦
          let next = f.1 in
          let within = next.branch.within in
          let ahead = next.ahead in
          let v : ℕ = f.0 in
          let first = balancing n inner berths k (Task.whole v) wagons even within (before_next next calm found) tt (omega arith) in
          let a = tasks_went first.2 even within (before_next next calm found) tt in
          let up = went_up next.branch a.0 in
          then_rest next first.2
          (balancing n inner berths k (Task.row u (v + 1)) first.1 up.even l (calm_off even.tree up.off calm) (after_next even.tree next found a.0.off a.1) (omega arith))
      | inr none ↦ ([], wagons, Balancing.none none)
    ]

module _ (n : ℕ) (inner wagons berths : List ℕ) (even : Even n inner wagons berths) where
  -- nothing comes before the neck
  pub calm_neck : CalmBefore n inner berths wagons 0
  calm_neck t l bef un = search rules

  plan_steps : (ms : List Move) (end : List ℕ) → Balancing n inner berths wagons (Task.whole 0) ms end → Stepping n inner berths wagons ms end
  plan_steps ms end plan =
      let w = tasks_went plan even even.some calm_neck tt in
      run_steps w.0.run (λ u l. w.1 u l (below_the_neck n inner even.tree u u (omega arith) l))

  steps_plan : (ms : List Move) (end : List ℕ) → Stepping n inner berths wagons ms end → Balancing n inner berths wagons (Task.whole 0) ms end
  steps_plan ms end steps =
      let plan = balancing n inner berths (n + n + 1) (Task.whole 0) wagons even even.some calm_neck tt (omega arith) in
      grind (arith, one_stepping n inner wagons berths plan.0 ms plan.1 end even.tree (plan_steps plan.0 plan.1 plan.2) steps)

pub steps_are_the_plan :
    (n : ℕ) (inner wagons berths : List ℕ) (ms : List Move) (end : List ℕ) → Even n inner wagons berths
    → (Stepping n inner berths wagons ms end → Balancing n inner berths wagons (Task.whole 0) ms end)
    × (Balancing n inner berths wagons (Task.whole 0) ms end → Stepping n inner berths wagons ms end)
steps_are_the_plan n inner wagons berths ms end even = (steps_plan n inner wagons berths even ms end, plan_steps n inner wagons berths even ms end)
