-- What a move does that a branch asks for: it is legal, keeps a siding even, and lowers the figure by one.
use Rattle.std.proofs.Common.{◌≡◌, ℕ, ◌+◌, ◌-◌, ◌<◌, ◌≤◌, ◌≢◌, List, length, get_or, arith, rules}
use Rattle.motion.specs.declared.moves.Move.{Move}
use Rattle.motion.specs.Tree.{Branch, Below}
use Rattle.motion.specs.Demand.{demand_of, figure_of}
use Rattle.motion.specs.Moves.{moved, Legal}
use Rattle.motion.specs.Visit.{Unsettled}
use Rattle.motion.specs.declared.ways.Way.{Way}
use Rattle.motion.specs.declared.ways.Way.TheVariants.{Outward, Inward}
use Rattle.motion.specs.Due.{Asks, Ready, Open, over, Eased, FirstMove}
use Rattle.motion.specs.Stepping.{Even}
use Rattle.motion.proofs.Changed.{total_moved}
use Rattle.motion.proofs.Crossings.{one_demand_changes, figure_moved}
use Rattle.motion.proofs.Order.{branch_up, branch_below, below_trans, below_le, one_inner}

-- what the sections hold after a move
module _ (wagons : List ℕ) (m : Move) (apart : m.from ≢ m.to) where
  at_from : m.from < length wagons → get_or (moved wagons m) m.from 0 ≡ get_or wagons m.from 0 - 1
  at_from l = search rules

  at_to : m.to < length wagons → get_or (moved wagons m) m.to 0 ≡ get_or wagons m.to 0 + 1
  at_to l = search rules

  at_others : (k : ℕ) → k ≢ m.from → k ≢ m.to → get_or (moved wagons m) k 0 ≡ get_or wagons k 0
  at_others k nf nt = search rules

-- the branch v of p asks for a move between them, p is ready and v is open
pub record Served (way : Way) (n : ℕ) (inner wagons berths : List ℕ) (p v : ℕ) : Type 0 where
  pub branch : Branch n inner p v
  pub asks : Asks way n inner wagons berths v
  pub ready : Ready way wagons p
  pub opened : Open way wagons v

-- what it does
pub record Nearer (way : Way) (n : ℕ) (inner wagons berths : List ℕ) (p v : ℕ) : Type 0 where
  pub legal : Legal n inner wagons (over way p v)
  pub even : Even n inner (moved wagons (over way p v)) berths
  pub fell : figure_of n inner (moved wagons (over way p v)) berths + 1 ≡ figure_of n inner wagons berths
  -- only v has another demand, one nearer to 0, and only p and v hold another number of wagons
  pub eased : Eased way (demand_of n inner wagons berths v) (demand_of n inner (moved wagons (over way p v)) berths v)
  pub demands : (k : ℕ) → k ≢ v → demand_of n inner (moved wagons (over way p v)) berths k ≡ demand_of n inner wagons berths k
  pub holds : (k : ℕ) → k ≢ p → k ≢ v → get_or (moved wagons (over way p v)) k 0 ≡ get_or wagons k 0
  -- p has given its wagon, or has one now
  pub opened : Open way (moved wagons (over way p v)) p

even_moved : (n : ℕ) (inner wagons berths : List ℕ) (m : Move) → m.from ≢ m.to → Even n inner wagons berths → Legal n inner wagons m → Even n inner (moved wagons m) berths
even_moved n inner wagons berths m apart even legal = search (rules, total_moved)

pub nearer : (way : Way) (n : ℕ) (inner wagons berths : List ℕ) (p v : ℕ) → Even n inner wagons berths → Served way n inner wagons berths p v → Nearer way n inner wagons berths p v
nearer Outward n inner wagons berths p v even served =
    let up = branch_up n inner even.tree served.branch in
    let legal : Legal n inner wagons (over Outward p v) = grind arith in
    let changes = one_demand_changes n inner wagons berths (over Outward p v) even.tree even.long legal in
    let all = figure_moved n inner wagons berths (over Outward p v) even.tree even.long legal v (omega arith) in
    let kept = even_moved n inner wagons berths (over Outward p v) in
    grind (arith, at_others wagons (over Outward p v), at_from wagons (over Outward p v), even.one_wagon p)
nearer Inward n inner wagons berths p v even served =
    let up = branch_up n inner even.tree served.branch in
    let legal : Legal n inner wagons (over Inward p v) = grind arith in
    let changes = one_demand_changes n inner wagons berths (over Inward p v) even.tree even.long legal in
    let all = figure_moved n inner wagons berths (over Inward p v) even.tree even.long legal v (omega arith) in
    let kept = even_moved n inner wagons berths (over Inward p v) in
    grind (arith, at_others wagons (over Inward p v), at_to wagons (over Inward p v))

-- the two sections of the first move of u
pub record Joint (way : Way) (n : ℕ) (inner wagons berths : List ℕ) (u : ℕ) (m : Move) : Type 0 where
  pub near : ℕ
  pub far : ℕ
  pub is : m ≡ over way near far
  pub under : Below inner u near
  pub served : Served way n inner wagons berths near far

pub joint : {way : Way} {n : ℕ} {inner wagons berths : List ℕ} {u : ℕ} {m : Move} → Ready way wagons u → FirstMove way n inner wagons berths u m → Joint way n inner wagons berths u m
joint ready (FirstMove.straight {u = u} {v = v} low opened) = search (rules, Below.itself)
joint ready (FirstMove.onward low ready' first) = search (rules, joint ready' first, below_trans, branch_below, Below.itself)

-- what is settled and does not lie below u stays settled
abbrev pub Off : ℕ → List ℕ → List ℕ → List ℕ → List ℕ → ℕ → Type 0
Off n inner berths wagons after u = (t : ℕ) → (Below inner u t → ⊥) → Unsettled n inner after berths t → Unsettled n inner wagons berths t

-- what the first move of u does
pub record FirstDoes (n : ℕ) (inner wagons berths : List ℕ) (u : ℕ) (m : Move) : Type 0 where
  pub legal : Legal n inner wagons m
  pub even : Even n inner (moved wagons m) berths
  pub fell : figure_of n inner (moved wagons m) berths + 1 ≡ figure_of n inner wagons berths
  -- the sections up to u keep their demands, and those before it in number their wagons
  pub demands : (k : ℕ) → k ≤ u → demand_of n inner (moved wagons m) berths k ≡ demand_of n inner wagons berths k
  pub holds : (k : ℕ) → k < u → get_or (moved wagons m) k 0 ≡ get_or wagons k 0
  pub off : Off n inner berths wagons (moved wagons m) u

pub first_does : (way : Way) (n : ℕ) (inner wagons berths : List ℕ) (u : ℕ) (m : Move) → Even n inner wagons berths → Ready way wagons u → FirstMove way n inner wagons berths u m → FirstDoes n inner wagons berths u m
first_does way n inner wagons berths u m even ready first =
    let j = joint ready first in
    let near = nearer way n inner wagons berths j.near j.far even j.served in
    let up = branch_up n inner even.tree j.served.branch in
    let on = below_le n inner even.tree (omega (arith, j.served.branch.within)) j.under in
    grind (arith, one_inner)
