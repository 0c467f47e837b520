-- The move that is due.
use Rattle.std.specs.Prelude.{◌≡◌, ℕ, ◌+◌, ◌<◌, List, ℤ, pos, negsuc, ◌+ℤ◌, ◌<ℤ◌, slice_index}
use Rattle.motion.specs.declared.moves.Move.{Move}
use Rattle.motion.specs.declared.ways.Way.{Way}
use Rattle.motion.specs.declared.ways.Way.TheVariants.{Outward, Inward}
use Rattle.motion.specs.Tree.{Branch}
use Rattle.motion.specs.Demand.{demand_of}
use Rattle.motion.specs.Visit.{FirstUnsettled}

-- a demand that asks for a move this way
abbrev pub Asked : Way → ℤ → Type 0
Asked Outward demand = pos 0 <ℤ demand
Asked Inward demand = demand <ℤ pos 0

-- how many such moves it asks for
abbrev pub asked_for : Way → ℤ → ℕ
asked_for Outward (pos k) = k
asked_for Outward (negsuc k) = 0
asked_for Inward (pos k) = 0
asked_for Inward (negsuc k) = k + 1

-- the branch v asks for such a move: its demand is above 0, or below 0
abbrev pub Asks : Way → ℕ → List ℕ → List ℕ → List ℕ → ℕ → Type 0
Asks way n inner wagons berths v = Asked way (demand_of n inner wagons berths v)

-- with so many wagons in it a section can be the inner end of the move: it holds a wagon to pass, or it is empty
abbrev pub CanBegin : Way → ℕ → Type 0
CanBegin Outward held = 0 < held
CanBegin Inward held = held ≡ 0

-- and the outer end
abbrev pub CanEnd : Way → ℕ → Type 0
CanEnd Outward held = held ≡ 0
CanEnd Inward held = 0 < held

-- u can be the inner end of it, and v the outer end
abbrev pub Ready : Way → List ℕ → ℕ → Type 0
Ready way wagons u = CanBegin way (slice_index wagons u)

abbrev pub Open : Way → List ℕ → ℕ → Type 0
Open way wagons v = CanEnd way (slice_index wagons v)

-- the move between u and its branch v
abbrev pub over : Way → ℕ → ℕ → Move
over Outward u v = record { from = u; to = v }
over Inward u v = record { from = v; to = u }

-- the demand of a branch before the move that it asks for, and after it: one nearer to 0
abbrev pub Eased : Way → ℤ → ℤ → Type 0
Eased Outward before after = after +ℤ pos 1 ≡ before
Eased Inward before after = after ≡ before +ℤ pos 1

-- v is the lowest branch of u that asks
pub record LowestAsking (way : Way) (n : ℕ) (inner wagons berths : List ℕ) (u v : ℕ) : Type 0 where
  pub branch : Branch n inner u v
  pub asks : Asks way n inner wagons berths v
  pub lowest : (k : ℕ) → k < v → Branch n inner u k → Asks way n inner wagons berths k → ⊥

-- u passes a wagon outward (draws one inward) by its lowest branch v that asks, and m is the first move of that:
-- the move between u and v, or, where v holds a wagon already (is empty itself), the first move of v doing the same
pub data FirstMove (way : Way) (n : ℕ) (inner wagons berths : List ℕ) : ℕ → Move → Type 0 where
  straight : {u v : ℕ} → LowestAsking way n inner wagons berths u v → Open way wagons v → FirstMove way n inner wagons berths u (over way u v)
  onward : {u v : ℕ} {m : Move} → LowestAsking way n inner wagons berths u v → Ready way wagons v
      → FirstMove way n inner wagons berths v m → FirstMove way n inner wagons berths u m

-- the move that is due: the first unsettled section passes its wagon outward, or, if it is empty, draws one inward
pub record Due (n : ℕ) (inner wagons berths : List ℕ) (m : Move) : Type 0 where
  pub way : Way
  pub section : ℕ
  pub first : FirstUnsettled n inner wagons berths section
  pub ready : Ready way wagons section
  pub move : FirstMove way n inner wagons berths section m
