-- What the check of a list of moves answers.
use Rattle.std.specs.Prelude.{◌≡◌, ℕ, ◌<◌, T, ◌⊎◌, List, ◌∷◌, ◌++◌, length, is_ok, Some, None, Ok, Err, Option, Result, slice_index, slice_index_or}
use Rattle.refusal.specs.declared.Refusal.{Refusal}
use Rattle.refusal.specs.declared.Refusal.TheVariants.{NoSection, NotNeighbours, NotThere, AlreadyThere, NumbersDiffer, BerthEmpty}
use Rattle.motion.specs.declared.moves.Move.{Move}
use Rattle.motion.specs.Moves.{Neighbours, Legal, Leads, Filled}
use Rattle.motion.specs.Promises.{FillsFrom, Exactly}
use Rattle.motion.specs.State.{State, EqualNumbers}

-- a test and what is tested after it: where P does not hold, the refusal is this one, and where it holds, the rest says
-- which
abbrev pub Unless : Type 0 → Refusal → (Refusal → Type 0) → Refusal → Type 0
Unless P this Rest e = ((P → ⊥) × (e ≡ this)) ⊎ (P × Rest e)

-- why a move is not legal where the wagons stand so: the first test that fails. The place is the move's index
abbrev pub Fault : ℕ → List ℕ → List ℕ → Move → ℕ → Refusal → Type 0
Fault n inner wagons m index =
    Unless (m.from < n) (NoSection index)
    (Unless (m.to < n) (NoSection index)
    (Unless (Neighbours n inner m.from m.to) (NotNeighbours index)
    (Unless (0 < slice_index wagons m.from) (NotThere index)
    (Unless (slice_index wagons m.to ≡ 0) (AlreadyThere index)
    (λ _. ⊥)))))

-- the list comes to a move that is not legal where those before it lead
pub record Stopped (n : ℕ) (inner wagons : List ℕ) (ms : List Move) (e : Refusal) : Type 0 where
  pub before : List Move
  pub at : Move
  pub after : List Move
  pub split : ms ≡ before ++ (at ∷ after)
  pub reached : List ℕ
  pub leads : Leads n inner wagons before reached
  pub fault : Fault n inner reached at (length before) e

-- this berth is empty, and every lower one is filled
pub record LowestEmpty (n : ℕ) (wagons berths : List ℕ) (berth : ℕ) : Type 0 where
  pub within : berth < n
  pub empty : slice_index_or wagons berth 0 < slice_index berths berth
  pub lower : Filled berth wagons berths

-- every move is legal, and the lowest berth that stays empty is the one named
pub record LeftEmpty (n : ℕ) (inner wagons berths : List ℕ) (ms : List Move) (e : Refusal) : Type 0 where
  pub end : List ℕ
  pub leads : Leads n inner wagons ms end
  pub berth : ℕ
  pub lowest : LowestEmpty n end berths berth
  pub named : e ≡ BerthEmpty berth

-- the answer: with equal numbers a filling list is accepted, with the number of its moves. Else the numbers differ, or
-- the list stops, or it leaves a berth empty
abbrev pub Checked : State → List Move → Result ℕ Refusal → Type 0
Checked x ms (Ok count) = EqualNumbers x × FillsFrom x ms × (count ≡ length ms)
Checked x ms (Err e) =
    Unless (EqualNumbers x) NumbersDiffer
    (λ r. Stopped x.sections x.inner x.wagons ms r ⊎ LeftEmpty x.sections x.inner x.wagons x.berths ms r)
    e

-- no other answer would do
abbrev pub NoOther : State → List Move → Result ℕ Refusal → Type 0
NoOther x ms r = (other : Result ℕ Refusal) → Checked x ms other → other ≡ r

-- with equal numbers a list is accepted exactly if it is a filling list
abbrev pub CheckIsExact : State → List Move → Result ℕ Refusal → Type 0
CheckIsExact x ms r = EqualNumbers x → Exactly (T (is_ok r)) (FillsFrom x ms)

-- The rest is for the parts of a check. What trying a move answers
abbrev pub Tried : ℕ → List ℕ → List ℕ → Move → ℕ → Result (Unit {0}) Refusal → Type 0
Tried n inner wagons m index (Ok _) = Legal n inner wagons m
Tried n inner wagons m index (Err e) = Fault n inner wagons m index e

-- what following the moves answers: where they lead
abbrev pub Followed : ℕ → List ℕ → List ℕ → List Move → Result (List ℕ) Refusal → Type 0
Followed n inner wagons ms (Ok end) = (length end ≡ 512) × Leads n inner wagons ms end
Followed n inner wagons ms (Err e) = Stopped n inner wagons ms e

-- what the search for an empty berth answers
abbrev pub Sought : ℕ → List ℕ → List ℕ → Option ℕ → Type 0
Sought n wagons berths (Some berth) = LowestEmpty n wagons berths berth
Sought n wagons berths None = Filled n wagons berths
