-- Stepping comes to one end, after as many moves as the figure says, and fills every berth.
use Rattle.std.proofs.Common.{◌≡◌, ℕ, zero, suc, ◌+◌, ◌<◌, cond, ◌⊎◌, List, [], ◌∷◌, pos, ap, inl, inr, arith, rules}
use Rattle.std.proofs.lemmas.Int.{ints}
use Rattle.motion.specs.declared.moves.Move.{Move}
use Rattle.motion.specs.Tree.{Tree, is_branch, sum_to, under}
use Rattle.motion.specs.Demand.{demand_of, figure_of}
use Rattle.motion.specs.Moves.{Leads, Filled}
use Rattle.motion.specs.Visit.{Unsettled, AllSettled}
use Rattle.motion.specs.Due.{Due}
use Rattle.motion.specs.Stepping.{Stepping, Even, FillsInFigure}
use Rattle.motion.proofs.Sums.{sum_same, sum_zero}
use Rattle.motion.proofs.Splits.{sum_below_splits}
use Rattle.motion.proofs.Least.{least}
use Rattle.motion.proofs.Asking.{unsettled_or_not}
use Rattle.motion.proofs.OneDue.{one_due}
use Rattle.motion.proofs.DueMoves.{none_due, some_due, first_zero, due_does}

due_or_settled : (n : ℕ) (inner wagons berths : List ℕ) → Even n inner wagons berths → ((m : Move) × Due n inner wagons berths m) ⊎ AllSettled n inner wagons berths
due_or_settled n inner wagons berths even =
    elim (least (Unsettled n inner wagons berths) (unsettled_or_not n inner wagons berths) n) [
      | inl f ↦ inl (some_due n inner wagons berths even f.0 f.1.within f.1.holds)
      | inr none ↦ inr none
    ]

-- with a figure below k
ends_within : (n : ℕ) (inner berths : List ℕ) (k : ℕ) (wagons : List ℕ) → Even n inner wagons berths → figure_of n inner wagons berths < k → (ms : List Move) × (end : List ℕ) × Stepping n inner berths wagons ms end
ends_within n inner berths zero wagons even le = let z : ⊥ = omega arith in absurd z
ends_within n inner berths (suc k) wagons even le =
    elim (due_or_settled n inner wagons berths even) [
      | inl due ↦
          let does = due_does n inner wagons berths due.0 even due.1 in
          let rest = ends_within n inner berths k _ does.even (omega (arith, does.fell)) in
          (due.0 ∷ rest.0, rest.1, Stepping.step due.1 rest.2)
      | inr settled ↦ ([], wagons, Stepping.settled settled)
    ]

pub stepping_ends : (n : ℕ) (inner wagons berths : List ℕ) → Even n inner wagons berths → (ms : List Move) × (end : List ℕ) × Stepping n inner berths wagons ms end
stepping_ends n inner wagons berths even = ends_within n inner berths (figure_of n inner wagons berths + 1) wagons even (omega arith)

same_steps :
    (n : ℕ) (inner berths : List ℕ) {wagons end other : List ℕ} {ms ns : List Move} → Tree n inner
    → Stepping n inner berths wagons ms end → Stepping n inner berths wagons ns other → (ms ≡ ns) × (end ≡ other)
same_steps n inner berths tree (Stepping.settled s) (Stepping.settled t) = grind arith
same_steps n inner berths tree (Stepping.settled s) (Stepping.step due rest) = absurd (none_due s due)
same_steps n inner berths tree (Stepping.step due rest) (Stepping.settled s) = absurd (none_due s due)
same_steps n inner berths {wagons} tree (Stepping.step {m = a} due rest) (Stepping.step {m = b} due' rest') =
    let e = one_due n inner wagons berths b a tree due' due in
    grind (arith, same_steps n inner berths tree rest (rw e at rest'))

pub one_stepping :
    (n : ℕ) (inner wagons berths : List ℕ) (ms ns : List Move) (end other : List ℕ) → Tree n inner
    → Stepping n inner berths wagons ms end → Stepping n inner berths wagons ns other → (ms ≡ ns) × (end ≡ other)
one_stepping n inner wagons berths ms ns end other tree s t = same_steps n inner berths tree s t

module _ (n : ℕ) (inner wagons berths : List ℕ) (even : Even n inner wagons berths) (settled : AllSettled n inner wagons berths) where
  -- at the end no section has a demand
  all_zero : (k : ℕ) → k < n → demand_of n inner wagons berths k ≡ pos 0
  all_zero k l = first_zero n inner wagons berths even k l (λ t p b. settled t p)

  no_figure : figure_of n inner wagons berths ≡ 0
  unfolding figure_of
  no_figure = grind (arith, sum_zero, all_zero)

  all_filled : Filled n wagons berths
  all_filled s l =
      let w = sum_below_splits n inner even.tree wagons s l in
      let b = sum_below_splits n inner even.tree berths s l in
      let here = same s l in
      let rest : sum_to (λ c. cond (is_branch inner s c) (under n inner wagons c) 0) n ≡ sum_to (λ c. cond (is_branch inner s c) (under n inner berths c) 0) n =
      sum_same (λ c. cond (is_branch inner s c) (under n inner wagons c) 0) (λ c. cond (is_branch inner s c) (under n inner berths c) 0) n
      (λ c k. ap (λ v. cond (is_branch inner s c) v 0) (same c k)) in
      omega arith
    where
      same : (k : ℕ) → k < n → under n inner wagons k ≡ under n inner berths k
      same k l = let z = all_zero k l in omega (arith, ints)

steps_fill : (n : ℕ) (inner berths : List ℕ) {wagons end : List ℕ} {ms : List Move} → Even n inner wagons berths → Stepping n inner berths wagons ms end → FillsInFigure n inner wagons berths ms end
steps_fill n inner berths {wagons} even (Stepping.settled s) = search (rules, no_figure, all_filled, Leads.stays)
steps_fill n inner berths {wagons} even (Stepping.step {m = m} due rest) =
    let does = due_does n inner wagons berths m even due in
    let on = steps_fill n inner berths does.even rest in
    search (arith, Leads.goes)

pub stepping_fills :
    (n : ℕ) (inner wagons berths : List ℕ) (ms : List Move) (end : List ℕ) → Even n inner wagons berths
    → Stepping n inner berths wagons ms end → FillsInFigure n inner wagons berths ms end
stepping_fills n inner wagons berths ms end even s = steps_fill n inner berths even s
