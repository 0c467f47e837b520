-- What is written for one list of moves after another.
use Rattle.std.proofs.Common.{◌≡◌, ℕ, suc, ◌+◌, ◌≤◌, List, [], ◌∷◌, ◌++◌, length, take, drop, set, sym, refl, ap, ◌∙◌, arith}
use Rattle.std.proofs.lemmas.List.{append_assoc, length-append, length-set, take-append-drop, take_more_set, drop-set-lt}
use Rattle.motion.specs.declared.moves.Move.{Move}
use Rattle.siding.specs.declared.siding.Siding.{Siding}
use Rattle.lists.specs.declared.book.Book.{Book}
use Rattle.lists.specs.Writing.{Writer, entries, writer_after, slots_after, Wrote}
use Rattle.lists.specs.Balanced.{Made, figure_at, HasRoom}

module _ {W E : Type 0} (writer : Writer W E) where
  writer_after_append : (w : W) (ms ns : List Move) → writer_after writer w (ms ++ ns) ≡ writer_after writer (writer_after writer w ms) ns
  writer_after_append w [] ns = refl
  writer_after_append w (m ∷ ms) ns = writer_after_append (writer.next w m) ms ns

  slots_after_append : (w : W) (len : ℕ) (slots : List E) (ms ns : List Move)
      → slots_after writer w len slots (ms ++ ns) ≡ slots_after writer (writer_after writer w ms) (len + length ms) (slots_after writer w len slots ms) ns
  slots_after_append w len slots [] ns = let e : len ≡ len + 0 = omega arith in ap (λ k. slots_after writer w k slots ns) e
  slots_after_append w len slots (m ∷ ms) ns =
      let e : len + 1 + length ms ≡ len + suc (length ms) = omega arith in
      slots_after_append (writer.next w m) (len + 1) (set slots len (writer.entry w m)) ms ns
      ∙ ap (λ k. slots_after writer (writer_after writer w (m ∷ ms)) k (slots_after writer w len slots (m ∷ ms)) ns) e

  length_slots_after : (w : W) (len : ℕ) (slots : List E) (ms : List Move) → length (slots_after writer w len slots ms) ≡ length slots
  length_slots_after w len slots [] = refl
  length_slots_after w len slots (m ∷ ms) = length_slots_after (writer.next w m) (len + 1) (set slots len (writer.entry w m)) ms ∙ length-set slots len (writer.entry w m)

  pub length_entries : (w : W) (ms : List Move) → length (entries writer w ms) ≡ length ms
  length_entries w [] = refl
  length_entries w (m ∷ ms) = ap suc (length_entries (writer.next w m) ms)

  -- the entries stand after those before them, and the slots past them are as they were
  pub slots_after_are : (w : W) (len : ℕ) (slots : List E) (ms : List Move) → len + length ms ≤ length slots
      → slots_after writer w len slots ms ≡ take len slots ++ (entries writer w ms ++ drop (len + length ms) slots)
  slots_after_are w len slots [] fits = let e : len ≡ len + 0 = omega arith in sym (take-append-drop len slots) ∙ ap (λ k. take len slots ++ drop k slots) e
  slots_after_are w len slots (m ∷ ms) fits =
      let x : E = writer.entry w m in
      let rest : List E = entries writer (writer.next w m) ms in
      let on = slots_after_are (writer.next w m) (len + 1) (set slots len x) ms (omega (arith, length-set slots len x)) in
      let e : len + 1 + length ms ≡ len + suc (length ms) = omega arith in
      on
      ∙ ap (λ l. l ++ (rest ++ drop (len + 1 + length ms) (set slots len x))) (take_more_set slots len x (omega arith))
      ∙ append_assoc (take len slots) (x ∷ []) (rest ++ drop (len + 1 + length ms) (set slots len x))
      ∙ ap (λ l. take len slots ++ (x ∷ (rest ++ l))) (drop-set-lt (len + 1 + length ms) slots len x (omega arith) ∙ ap (λ k. drop k slots) e)

  pub wrote_none : (b : Book W E) → Wrote writer b [] b
  wrote_none b = record { len = omega arith; slots = refl; next = refl; list = refl; slice = refl }

  pub wrote_both : {b b' b'' : Book W E} (ms ns : List Move) → Wrote writer b ms b' → Wrote writer b' ns b'' → Wrote writer b (ms ++ ns) b''
  wrote_both {b} {b'} {b''} ms ns p q = record {
    len = omega (arith, p.len, q.len, length-append ms ns);
    slots = q.slots
        ∙ ap (λ v. slots_after writer v b'.list.now.len b'.list.now.slots.now ns) p.next
        ∙ ap (λ k. slots_after writer (writer_after writer b.writer.now ms) k b'.list.now.slots.now ns) p.len
        ∙ ap (λ s. slots_after writer (writer_after writer b.writer.now ms) (b.list.now.len + length ms) s ns) p.slots
        ∙ sym (slots_after_append b.writer.now b.list.now.len b.list.now.slots.now ms ns);
    next = q.next ∙ ap (λ v. writer_after writer v ns) p.next ∙ sym (writer_after_append b.writer.now ms ns);
    list = q.list ∙ p.list;
    slice = q.slice ∙ p.slice;
  }

  wrote_long : {b b' : Book W E} {ms : List Move} → Wrote writer b ms b' → length b'.list.now.slots.now ≡ length b.list.now.slots.now
  wrote_long {b} {ms = ms} a = ap length a.slots ∙ length_slots_after b.writer.now b.list.now.len b.list.now.slots.now ms

  -- moves were made, and then others
  pub made_both : {P Q R : List Move → List ℕ → Type 0} {b b' b'' : Book W E} {wagons wagons' : List ℕ}
      → (p : Made writer P b wagons b') → (q : Made writer Q b' wagons' b'') → R (p.moves ++ q.moves) wagons' → Made writer R b wagons' b''
  made_both p q does = record { moves = p.moves ++ q.moves; does = does; wrote = wrote_both p.moves q.moves p.wrote q.wrote }

  -- moves that lower the figure by as many as they are leave room for the rest
  pub room_left : (x : Siding) {Does : List Move → List ℕ → Type 0} {b b' : Book W E} (wagons then : List ℕ)
      → (made : Made writer Does b then b') → figure_at x then + length made.moves ≡ figure_at x wagons → HasRoom x wagons b → HasRoom x then b'
  room_left x wagons then made fell room = omega (arith, made.wrote.len, wrote_long made.wrote)
