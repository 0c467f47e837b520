-- What calls make of a siding.
use Rattle.std.specs.Prelude.{◌≡◌, ◌+◌, ◌<◌, ◌≤◌, ◌⊎◌, List, [], ◌∷◌, ◌++◌, length, nat_lt, slice_index}
use Rattle.motion.specs.Tree.{Tree}
use Rattle.motion.specs.Demand.{Single}
use Rattle.motion.specs.Visit.{AllSettled}
use Rattle.motion.specs.Due.{Due}
use Rattle.motion.specs.Moves.{one_less, one_more, moved, Legal, one_if}
use Rattle.motion.specs.State.{State, figure, page_begun, with_wagons, with_berths, most_moves, EqualNumbers}
use Rattle.motion.specs.declared.moves.Move.{Move}
use Rattle.motion.specs.declared.calls.Act.{Act}
use Rattle.motion.specs.declared.calls.Act.TheVariants.{Call as Called, Step}
use Rattle.motion.specs.declared.calls.Call.{Call}
use Rattle.motion.specs.declared.calls.Call.TheVariants.{Put, Take, Mark, Unmark, Hand, Turn}

-- after a hand move: one move more on the page, and one away move more exactly if the figure is greater than before
abbrev pub hand_moved : State → Move → State
hand_moved x m =
    let y : State = with_wagons x (moved x.wagons m) in
    record {
      sections = x.sections;
      inner = x.inner;
      wagons = y.wagons;
      berths = x.berths;
      head = x.head;
      moves = x.moves + 1;
      away = x.away + one_if (nat_lt (figure x) (figure y));
    }

-- after a step: one move more on the page, and no away move
abbrev pub stepped : State → Move → State
stepped x m = record {
  sections = x.sections;
  inner = x.inner;
  wagons = moved x.wagons m;
  berths = x.berths;
  head = x.head;
  moves = x.moves + 1;
  away = x.away;
}

-- what a call that is done makes of the siding
abbrev pub Does : Call → State → State → Type 0
Does (Put s) x y = (s < x.sections) × (slice_index x.wagons s ≡ 0) × (y ≡ page_begun (with_wagons x (one_more x.wagons s)))
Does (Take s) x y = (s < x.sections) × (0 < slice_index x.wagons s) × (y ≡ page_begun (with_wagons x (one_less x.wagons s)))
Does (Mark s) x y = (s < x.sections) × (slice_index x.berths s ≡ 0) × (y ≡ page_begun (with_berths x (one_more x.berths s)))
Does (Unmark s) x y = (s < x.sections) × (0 < slice_index x.berths s) × (y ≡ page_begun (with_berths x (one_less x.berths s)))
Does (Hand m) x y = Legal x.sections x.inner x.wagons m × (x.moves < most_moves) × (y ≡ hand_moved x m)
Does Turn x y = y ≡ page_begun x

-- the move that is due on a siding; that every section of it is settled
abbrev pub DueIn : State → Move → Type 0
DueIn x m = Due x.sections x.inner x.wagons x.berths m

abbrev pub SettledIn : State → Type 0
SettledIn x = AllSettled x.sections x.inner x.wagons x.berths

-- what an act that is done makes of the siding. A step is done with as many wagons as berths: it makes the move that
-- is due, if the page has room for it, and where none is due it changes nothing
abbrev pub Done : Act → State → State → Type 0
Done (Called c) x y = Does c x y
Done Step x y =
    EqualNumbers x
    × (((m : Move) × DueIn x m × (x.moves < most_moves) × (y ≡ stepped x m)) ⊎ (SettledIn x × (y ≡ x)))

-- one act: it is done; or there is nothing that it could make, and it is refused and changes nothing
pub data Makes (a : Act) (x y : State) : Type 0 where
  done : Done a x y → Makes a x y
  refused : ((z : State) → Done a x z → ⊥) → y ≡ x → Makes a x y

-- acts one after another, each on what those before it left
pub data After : List Act → State → State → Type 0 where
  start : {x : State} → After [] x x
  then : {a : Act} {acts : List Act} {x y z : State} → Makes a x y → After acts y z → After (a ∷ acts) x z

-- the run of the acts before, then the act a from x to y, then the acts after
pub record Passing (before : List Act) (a : Act) (after : List Act) (entry x y exit : State) : Type 0 where
  pub to_it : After before entry x
  pub it : Makes a x y
  pub from_it : After after y exit

-- a siding as every one is: a tree, with at most one wagon and one berth to a section
pub record Sound (x : State) : Type 0 where
  pub some : 0 < x.sections
  pub tree : Tree x.sections x.inner
  pub long_wagons : x.sections ≤ length x.wagons
  pub long_berths : x.sections ≤ length x.berths
  pub one_wagon : Single x.sections x.wagons
  pub one_berth : Single x.sections x.berths

-- acts lead to one end only
abbrev pub OneEnd : Type 0
OneEnd = (acts : List Act) (x y z : State) → Sound x → After acts x y → After acts x z → y ≡ z

-- acts always lead to some end
abbrev pub SomeEnd : Type 0
SomeEnd = (acts : List Act) (x : State) → Sound x → (y : State) × After acts x y

-- a run of acts passes through each of them
abbrev pub EverySplit : Type 0
EverySplit =
    (before : List Act) (a : Act) (after : List Act) (entry exit : State)
    → After (before ++ (a ∷ after)) entry exit
    → (x : State) × (y : State) × Passing before a after entry x y exit
