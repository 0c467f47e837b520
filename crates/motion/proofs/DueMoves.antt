-- A move is due exactly while some section is unsettled; it is legal, and lowers the figure by one.
use Rattle.std.proofs.Common.{◌≡◌, ℕ, zero, suc, ◌+◌, ◌<◌, ◌≤◌, ◌⊎◌, List, get_or, pos, refl, inl, inr, arith, rules}
use Rattle.std.proofs.lemmas.Bool.{cases_eq}
use Rattle.motion.specs.declared.moves.Move.{Move}
use Rattle.motion.specs.Tree.{Tree, Branch, Below}
use Rattle.motion.specs.Demand.{demand_of, figure_of}
use Rattle.motion.specs.Moves.{moved, Legal}
use Rattle.motion.specs.Visit.{Before, Unsettled, AllSettled, FirstUnsettled}
use Rattle.motion.specs.declared.ways.Way.{Way}
use Rattle.motion.specs.Due.{over, LowestAsking, FirstMove, Due}
use Rattle.motion.specs.Stepping.{Even}
use Rattle.motion.proofs.Decided.{both}
use Rattle.motion.proofs.Order.{before_trans, before_irrefl, Which, which, branch_up}
use Rattle.motion.proofs.Asking.{ready_or_open, some_way, settled_zero, unsettled_or_not, asks_onward, unsettled_asks, neck_zero}
use Rattle.motion.proofs.Serving.{FirstDoes, first_does}

before_or_not : (n : ℕ) (inner : List ℕ) → Tree n inner → (s t : ℕ) → s < n → t < n → Before n inner s t ⊎ (Before n inner s t → ⊥)
before_or_not n inner tree s t p q =
    elim (which n inner tree s t p q) [
      | Which.same e ↦ inr (λ b. before_irrefl n inner tree q (rw e at b))
      | Which.sooner b ↦ inl b
      | Which.later b ↦ inr (λ c. before_irrefl n inner tree q (before_trans b c))
    ]

-- u is unsettled, and of the sections below k none that comes before it is
record FirstOf (n : ℕ) (inner wagons berths : List ℕ) (k u : ℕ) : Type 0 where
  within : u < n
  unsettled : Unsettled n inner wagons berths u
  none_before : (t : ℕ) → t < k → Before n inner t u → Unsettled n inner wagons berths t → ⊥

first_among : (n : ℕ) (inner wagons berths : List ℕ) → Tree n inner → (u : ℕ) → u < n → Unsettled n inner wagons berths u → (k : ℕ) → k ≤ n → (v : ℕ) × FirstOf n inner wagons berths k v
first_among n inner wagons berths tree u l un zero le = grind arith
first_among n inner wagons berths tree u l un (suc k) le =
    let f = first_among n inner wagons berths tree u l un k (omega arith) in
    let v : ℕ = f.0 in
    elim (both (before_or_not n inner tree k v (omega arith) f.1.within) (unsettled_or_not n inner wagons berths k)) [
      | inl new ↦ (
        k,
        record {
          within = omega arith;
          unsettled = new.1;
          none_before = λ t p b un. elim (cases_eq t k) [
            | inl e ↦ before_irrefl n inner tree le (rw e at b)
            | inr ne ↦ f.1.none_before t (omega arith) (before_trans b new.0) un
          ];
        },
      )
      | inr not ↦ (
        v,
        record {
          within = f.1.within;
          unsettled = f.1.unsettled;
          none_before = λ t p b un. elim (cases_eq t k) [
            | inl e ↦ not (rw e at b, rw e at un)
            | inr ne ↦ f.1.none_before t (omega arith) b un
          ];
        },
      )
    ]

-- where some section is unsettled, one is the first
first_unsettled : (n : ℕ) (inner wagons berths : List ℕ) → Tree n inner → (u : ℕ) → u < n → Unsettled n inner wagons berths u → (v : ℕ) × FirstUnsettled n inner wagons berths v
first_unsettled n inner wagons berths tree u l un = grind (arith, first_among n inner wagons berths tree u l un n (omega arith))

-- it has no demand itself: it is the neck, or its inner neighbour comes before it, and is settled
pub first_zero : (n : ℕ) (inner wagons berths : List ℕ) → Even n inner wagons berths → (u : ℕ) → u < n
    → ((t : ℕ) → t < n → Before n inner t u → Unsettled n inner wagons berths t → ⊥) → demand_of n inner wagons berths u ≡ pos 0
first_zero n inner wagons berths even zero l none = neck_zero n inner wagons berths even
first_zero n inner wagons berths even (suc u) l none =
    let low = even.tree.lower (suc u) (omega arith) l in
    let own : Branch n inner (get_or inner (suc u) 0) (suc u) = record { outer = omega arith; within = l; hangs = refl } in
    settled_zero n inner wagons berths (none (get_or inner (suc u) 0) (omega arith) (Before.above own Below.itself)) own

-- the first move of a section whose lowest branch that asks is v
first_move : (way : Way) (n : ℕ) (inner wagons berths : List ℕ) → Even n inner wagons berths → (k u v : ℕ) → n ≤ v + k → LowestAsking way n inner wagons berths u v → (m : Move) × FirstMove way n inner wagons berths u m
first_move way n inner wagons berths even zero u v le low = absurd (omega (arith, low.branch.within))
first_move way n inner wagons berths even (suc k) u v le low =
    elim (ready_or_open way wagons v) [
      | inl ready ↦
          let next = asks_onward n inner wagons berths even.tree even.one_berth way v low.branch.within ready low.asks in
          let up = branch_up n inner even.tree next.1.branch in
          let rest = first_move way n inner wagons berths even k v next.0 (omega arith) next.1 in
          (rest.0, FirstMove.onward low ready rest.1)
      | inr opened ↦ (over way u v, FirstMove.straight low opened)
    ]

pub some_due : (n : ℕ) (inner wagons berths : List ℕ) → Even n inner wagons berths → (u : ℕ) → u < n → Unsettled n inner wagons berths u → (m : Move) × Due n inner wagons berths m
some_due n inner wagons berths even u l un =
    let f = first_unsettled n inner wagons berths even.tree u l un in
    let first = f.1 in
    let zero_there = first_zero n inner wagons berths even f.0 first.within first.none_before in
    let way = some_way wagons f.0 in
    let low = unsettled_asks n inner wagons berths even.tree even.one_berth way.0 f.0 first.within way.1 zero_there first.unsettled in
    let move = first_move way.0 n inner wagons berths even n f.0 low.0 (omega arith) low.1 in
    (move.0, record { way = way.0; section = f.0; first = first; ready = way.1; move = move.1 })

-- and none is due where all are settled
pub none_due : {n : ℕ} {inner wagons berths : List ℕ} {m : Move} → AllSettled n inner wagons berths → Due n inner wagons berths m → ⊥
none_due settled due = search rules

pub due_while_unsettled :
    (n : ℕ) (inner wagons berths : List ℕ) → Even n inner wagons berths
    → ((u : ℕ) → u < n → Unsettled n inner wagons berths u → (m : Move) × Due n inner wagons berths m)
    × ((m : Move) → Due n inner wagons berths m → AllSettled n inner wagons berths → ⊥)
due_while_unsettled n inner wagons berths even =
    (some_due n inner wagons berths even, λ m due settled. none_due settled due)

-- what a due move does
pub due_does : (n : ℕ) (inner wagons berths : List ℕ) (m : Move) → Even n inner wagons berths → (due : Due n inner wagons berths m) → FirstDoes n inner wagons berths due.section m
due_does n inner wagons berths m even due = first_does due.way n inner wagons berths due.section m even due.ready due.move

pub due_is_legal :
    (n : ℕ) (inner wagons berths : List ℕ) (m : Move) → Even n inner wagons berths → Due n inner wagons berths m
    → Legal n inner wagons m × (figure_of n inner (moved wagons m) berths + 1 ≡ figure_of n inner wagons berths)
due_is_legal n inner wagons berths m even due = grind (arith, due_does n inner wagons berths m even due)
