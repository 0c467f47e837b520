-- What the parts of a step answer.
use Rattle.std.specs.Prelude.{◌≡◌, ℕ, ◌<◌, ◌≤◌, ◌⊎◌, Some, None, Ok, Err, Option, Result}
use Rattle.motion.specs.declared.ways.Way.{Way}
use Rattle.motion.specs.Tree.{Branch, Below}
use Rattle.motion.specs.Visit.{Before, Unsettled, AllSettled}
use Rattle.motion.specs.Due.{Asks, LowestAsking, FirstMove, Due}
use Rattle.motion.specs.State.{State, EqualNumbers, most_moves}
use Rattle.motion.specs.Calls.{stepped, DueIn}
use Rattle.refusal.specs.declared.Refusal.{Refusal}
use Rattle.refusal.specs.declared.Refusal.TheVariants.{NumbersDiffer, PageFull}
use Rattle.siding.specs.Stands.{state_of}
use Rattle.motion.specs.declared.moves.Move.{Move}
use Rattle.siding.specs.declared.siding.Siding.{Siding}

-- the lowest branch of u that asks, if there is one
abbrev pub Picked : Siding → Way → ℕ → Option ℕ → Type 0
Picked x way u (Some v) = LowestAsking way x.track.sections x.track.inner x.wagons.in_section x.berths.in_section u v
Picked x way u None = (k : ℕ) → Branch x.track.sections x.track.inner u k → Asks way x.track.sections x.track.inner x.wagons.in_section x.berths.in_section k → ⊥

-- nothing at or below u is unsettled
abbrev pub CalmBelow : Siding → ℕ → Type 0
CalmBelow x u = (t : ℕ) → t < x.track.sections → Below x.track.inner u t → Unsettled x.track.sections x.track.inner x.wagons.in_section x.berths.in_section t → ⊥

-- w is the first unsettled section at or below u
pub record FirstBelow (x : Siding) (u w : ℕ) : Type 0 where
  pub within : w < x.track.sections
  pub under : Below x.track.inner u w
  pub unsettled : Unsettled x.track.sections x.track.inner x.wagons.in_section x.berths.in_section w
  pub none_before : (t : ℕ) → t < x.track.sections → Below x.track.inner u t → Before x.track.sections x.track.inner t w → Unsettled x.track.sections x.track.inner x.wagons.in_section x.berths.in_section t → ⊥

-- what a visit of u answers
abbrev pub Visited : Siding → ℕ → Option ℕ → Type 0
Visited x u (Some w) = FirstBelow x u w
Visited x u None = CalmBelow x u

-- w is the first unsettled section at or below the branches of u
pub record InRow (x : Siding) (u w : ℕ) : Type 0 where
  pub at : ℕ
  pub branch : Branch x.track.sections x.track.inner u at
  pub lower : (k : ℕ) → k < at → Branch x.track.sections x.track.inner u k → CalmBelow x k
  pub first : FirstBelow x at w

-- what a visit of the row of branches of u answers
abbrev pub RowVisited : Siding → ℕ → Option ℕ → Type 0
RowVisited x u (Some w) = InRow x u w
RowVisited x u None = (k : ℕ) → Branch x.track.sections x.track.inner u k → CalmBelow x k

-- the first move of u handing on this way; there is one
abbrev pub MovesFirst : Siding → Way → ℕ → Option Move → Type 0
MovesFirst x way u (Some m) = FirstMove way x.track.sections x.track.inner x.wagons.in_section x.berths.in_section u m
MovesFirst x way u None = ⊥

-- the move that is due, if one is
abbrev pub IsDue : Siding → Option Move → Type 0
IsDue x (Some m) = Due x.track.sections x.track.inner x.wagons.in_section x.berths.in_section m
IsDue x None = AllSettled x.track.sections x.track.inner x.wagons.in_section x.berths.in_section

-- why a step is refused: the numbers differ; or else a move is due, and the page has no room for it
abbrev pub StepRefused : State → Refusal → Type 0
StepRefused x e =
    ((EqualNumbers x → ⊥) × (e ≡ NumbersDiffer))
    ⊎ (EqualNumbers x × ((m : Move) × DueIn x m) × (most_moves ≤ x.moves) × (e ≡ PageFull))

-- what a step does and answers
abbrev pub Stepped : Siding → Siding → Result (Option Move) Refusal → Type 0
Stepped before after (Ok (Some m)) =
    EqualNumbers (state_of before) × IsDue before (Some m) × (before.page.moves < most_moves) × (state_of after ≡ stepped (state_of before) m)
Stepped before after (Ok None) = EqualNumbers (state_of before) × IsDue before None × (after ≡ before)
Stepped before after (Err e) = StepRefused (state_of before) e × (after ≡ before)
