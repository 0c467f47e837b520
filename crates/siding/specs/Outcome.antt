-- What each call makes of a siding, or the refusal that it meets, the tests in their order.
use Rattle.std.specs.Prelude.{◌≡◌, ℕ, Bool, cond, ◌||◌, List, Ok, Err, Result, MatchResult, ◌==◌, nat_lt, slice_index}
use Rattle.refusal.specs.declared.Refusal.{Refusal}
use Rattle.refusal.specs.declared.Refusal.TheVariants.{NoSection, AlreadyThere, NotThere, NotNeighbours, PageFull}
use Rattle.motion.specs.Tree.{is_branch}
use Rattle.motion.specs.Moves.{one_less, one_more}
use Rattle.motion.specs.State.{State, page_begun, with_wagons, with_berths, most_moves}
use Rattle.motion.specs.Calls.{hand_moved}
use Rattle.motion.specs.declared.moves.Move.{Move}
use Rattle.motion.specs.declared.calls.Call.{Call}
use Rattle.motion.specs.declared.calls.Call.TheVariants.{Put, Take, Mark, Unmark, Hand, Turn}
use Rattle.siding.specs.declared.siding.Siding.{Siding}
use Rattle.siding.specs.Stands.{state_of}

-- a call on a section that there is
abbrev pub on_section : State → ℕ → Result State Refusal → Result State Refusal
on_section x s rest = cond (nat_lt s x.sections) rest (Err (NoSection s))

-- into a section that has none, and from one that has some
abbrev pub into_empty : List ℕ → ℕ → Result State Refusal → Result State Refusal
into_empty xs s rest = cond (slice_index xs s == 0) rest (Err (AlreadyThere 0))

abbrev pub from_full : List ℕ → ℕ → Result State Refusal → Result State Refusal
from_full xs s rest = cond (slice_index xs s == 0) (Err (NotThere 0)) rest

abbrev pub are_neighbours : List ℕ → ℕ → ℕ → Bool
are_neighbours inner a b = is_branch inner a b || is_branch inner b a

-- whether a move is legal where the wagons stand so, or else the refusal that it meets, the tests in their order
abbrev pub legality : ℕ → List ℕ → List ℕ → Move → Result (Unit {0}) Refusal
legality n inner wagons m =
    cond (nat_lt m.from n)
    (cond (nat_lt m.to n)
    (cond (are_neighbours inner m.from m.to)
    (cond (slice_index wagons m.from == 0)
    (Err (NotThere 0))
    (cond (slice_index wagons m.to == 0) (Ok tt) (Err (AlreadyThere 0))))
    (Err (NotNeighbours 0)))
    (Err (NoSection m.to)))
    (Err (NoSection m.from))

-- a call that needs a legal move
abbrev pub if_legal : Result (Unit {0}) Refusal → Result State Refusal → Result State Refusal
if_legal (Ok u) rest = rest
if_legal (Err e) rest = Err e

abbrev pub on_page : State → Result State Refusal → Result State Refusal
on_page x rest = cond (nat_lt x.moves most_moves) rest (Err PageFull)

abbrev pub outcome : Call → State → Result State Refusal
outcome (Put s) x = on_section x s (into_empty x.wagons s (Ok (page_begun (with_wagons x (one_more x.wagons s)))))
outcome (Take s) x = on_section x s (from_full x.wagons s (Ok (page_begun (with_wagons x (one_less x.wagons s)))))
outcome (Mark s) x = on_section x s (into_empty x.berths s (Ok (page_begun (with_berths x (one_more x.berths s)))))
outcome (Unmark s) x = on_section x s (from_full x.berths s (Ok (page_begun (with_berths x (one_less x.berths s)))))
outcome (Hand m) x = if_legal (legality x.sections x.inner x.wagons m) (on_page x (Ok (hand_moved x m)))
outcome Turn x = Ok (page_begun x)

-- the siding stands as the outcome says; or the call is refused as it says, and nothing has changed
abbrev pub CarriedOut : Result State Refusal → Result (Unit {0}) Refusal → Siding → Siding → Type 0
CarriedOut what answer before after = MatchResult answer (λ _. what ≡ Ok (state_of after)) (λ e. (what ≡ Err e) × (after ≡ before))
