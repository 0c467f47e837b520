-- What the parts of a planner need, and what they answer.
use Rattle.std.specs.Prelude.{◌≡◌, ℕ, List, ℤ, pos, Some, None, Option, slice_index_or, slice_set}
use Rattle.motion.specs.declared.ways.Way.{Way}
use Rattle.motion.specs.declared.ways.Way.TheVariants.{Outward, Inward}
use Rattle.motion.specs.Tree.{Branch}
use Rattle.motion.specs.Due.{Asks, Ready, Open, Eased, LowestAsking}
use Rattle.siding.specs.declared.siding.Siding.{Siding}
use Rattle.lists.specs.declared.planner.Planner.{Planner}

-- the cursors of one way
abbrev pub cursors : Way → Planner → List ℕ
cursors Outward p = p.outward
cursors Inward p = p.inward

-- the cursors of the other way
abbrev pub other_cursors : Way → Planner → List ℕ
other_cursors Outward p = p.inward
other_cursors Inward p = p.outward

-- the lowest branch of u that asks, if there is one
abbrev pub Asking : Siding → List ℕ → Way → ℕ → Option ℕ → Type 0
Asking x wagons way u (Some v) = LowestAsking way x.track.sections x.track.inner wagons x.berths.in_section u v
Asking x wagons way u None = (k : ℕ) → Branch x.track.sections x.track.inner u k → Asks way x.track.sections x.track.inner wagons x.berths.in_section k → ⊥

-- the branch v of u asks for a move between them, u is ready and v is open
pub record CanCarry (way : Way) (p : Planner) (u v : ℕ) : Type 0 where
  pub branch : Branch p.siding.now.track.sections p.siding.now.track.inner u v
  pub asks : Asks way p.siding.now.track.sections p.siding.now.track.inner p.wagons p.siding.now.berths.in_section v
  pub ready : Ready way p.wagons u
  pub opened : Open way p.wagons v

-- of all demands that of the branch v alone has changed, by the move that it asked for
pub record DemandEased (way : Way) (p : Planner) (v : ℕ) (p' : Planner) : Type 0 where
  pub now : ℤ
  pub eased : Eased way (slice_index_or p.demand v (pos 0)) now
  pub demand : p'.demand ≡ slice_set p.demand v now
