-- Moves of wagons, and lists of moves that fill the berths.
use Rattle.std.specs.Prelude.{◌≡◌, ℕ, ◌+◌, ◌-◌, ◌<◌, ◌≤◌, Bool, cond, ◌&&◌, ◌⊎◌, List, [], ◌∷◌, length, ◌==◌, nat_lt, slice_index, slice_index_or, slice_set}
use Rattle.motion.specs.declared.moves.Move.{Move}
use Rattle.motion.specs.Tree.{Branch}

-- a section and a branch of it
abbrev pub Neighbours : ℕ → List ℕ → ℕ → ℕ → Type 0
Neighbours n inner a b = Branch n inner a b ⊎ Branch n inner b a

-- one wagon less at a section; one more
abbrev pub one_less : List ℕ → ℕ → List ℕ
one_less xs s = slice_set xs s (slice_index xs s - 1)

abbrev pub one_more : List ℕ → ℕ → List ℕ
one_more xs s = slice_set xs s (slice_index xs s + 1)

-- where the wagons are after a move
abbrev pub moved : List ℕ → Move → List ℕ
moved wagons m = one_more (one_less wagons m.from) m.to

-- a move is legal that takes a wagon from one section to an empty neighbour
pub record Legal (n : ℕ) (inner wagons : List ℕ) (m : Move) : Type 0 where
  pub from_in : m.from < n
  pub to_in : m.to < n
  pub neighbours : Neighbours n inner m.from m.to
  pub there : 0 < slice_index wagons m.from
  pub free : slice_index_or wagons m.to 0 ≡ 0

-- a list of moves, each legal where those before it lead, leads from one standing of the wagons to another
pub data Leads (n : ℕ) (inner : List ℕ) : List ℕ → List Move → List ℕ → Type 0 where
  stays : {wagons : List ℕ} → Leads n inner wagons [] wagons
  goes : {wagons end : List ℕ} {m : Move} {ms : List Move} → Legal n inner wagons m → Leads n inner (moved wagons m) ms end → Leads n inner wagons (m ∷ ms) end

-- every berth has its wagon
abbrev pub Filled : ℕ → List ℕ → List ℕ → Type 0
Filled n wagons berths = (s : ℕ) → s < n → slice_index berths s ≤ slice_index wagons s

-- a filling list: it is legal, and every berth is filled where it leads
pub record Fills (n : ℕ) (inner wagons berths : List ℕ) (ms : List Move) : Type 0 where
  pub end : List ℕ
  pub leads : Leads n inner wagons ms end
  pub filled : Filled n end berths

-- a shortest one has no more moves than any other
pub record Shortest (n : ℕ) (inner wagons berths : List ℕ) (ms : List Move) : Type 0 where
  pub fills : Fills n inner wagons berths ms
  pub least : (others : List Move) → Fills n inner wagons berths others → length ms ≤ length others

-- a move crosses s inward if it leads from s to its inner neighbour, and outward if it leads from there to s;
-- of two neighbours the inner one has the lower number
abbrev pub crosses_inward : ℕ → Move → Bool
crosses_inward s m = m.from == s && nat_lt m.to m.from

abbrev pub crosses_outward : ℕ → Move → Bool
crosses_outward s m = m.to == s && nat_lt m.from m.to

abbrev pub one_if : Bool → ℕ
one_if b = cond b 1 0
