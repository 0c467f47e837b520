-- What is written into a list, entry by entry, as moves are made.
use Rattle.std.specs.Prelude.{◌≡◌, ℕ, ◌+◌, ◌<◌, List, [], ◌∷◌, length, slice_set}
use Rattle.motion.specs.declared.moves.Move.{Move}
use Rattle.lists.specs.declared.book.Book.{Book}
use Rattle.lists.specs.Held.{SameSlice}

-- a writer: the entry that it writes for a move, and what it is after that
pub record Writer (W E : Type 0) : Type 0 where
  pub entry : W → Move → E
  pub next : W → Move → W

-- its entries for moves, one after another; and what it is after them
abbrev pub entries : {W E : Type 0} → Writer W E → W → List Move → List E
entries writer w [] = []
entries writer w (m ∷ ms) = writer.entry w m ∷ entries writer (writer.next w m) ms

abbrev pub writer_after : {W E : Type 0} → Writer W E → W → List Move → W
writer_after writer w [] = w
writer_after writer w (m ∷ ms) = writer_after writer (writer.next w m) ms

-- the slots, once the entries stand in those from `len` on
abbrev pub slots_after : {W E : Type 0} → Writer W E → W → ℕ → List E → List Move → List E
slots_after writer w len slots [] = slots
slots_after writer w len slots (m ∷ ms) = slots_after writer (writer.next w m) (len + 1) (slice_set slots len (writer.entry w m)) ms

-- a writer that writes the moves themselves, and stays as it is
abbrev pub moves_writer : {W : Type 0} → Writer W Move
moves_writer = record { entry = λ w m. m; next = λ w m. w }

-- the list of a book has a free slot
abbrev pub HasSlot : {W E : Type 0} → Book W E → Type 0
HasSlot b = b.list.now.len < length b.list.now.slots.now

-- a book, before moves and after them: its writer's entries are written, into the same slice of the same list
pub record Wrote {W E : Type 0} (writer : Writer W E) (before : Book W E) (ms : List Move) (after : Book W E) : Type 0 where
  pub len : after.list.now.len ≡ before.list.now.len + length ms
  pub slots : after.list.now.slots.now ≡ slots_after writer before.writer.now before.list.now.len before.list.now.slots.now ms
  pub next : after.writer.now ≡ writer_after writer before.writer.now ms
  pub list : after.list.ghost_name ≡ before.list.ghost_name
  pub slice : SameSlice before.list.now after.list.now
