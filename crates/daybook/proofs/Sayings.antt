-- A line says an act just where it is what the act is written as.
use Rattle.std.proofs.Common.{◌≡◌, ℕ, ◌≤◌, Bool, true, false, cond, eqb, List, [], ◌∷◌, ◌++◌, length, IfSome, Some, None, decimal, Option, refl, ap, ◌∙◌, arith}
use Rattle.std.specs.Option.{option_map}
use Rattle.std.specs.Bool.{then_some}
use Rattle.std.proofs.lemmas.Bool.{eqb-true, and_parts, cond_both}
use Rattle.motion.specs.declared.moves.Move.{Move}
use Rattle.motion.specs.declared.calls.Act.{Act}
use Rattle.motion.specs.declared.calls.Act.TheVariants.{Call as Called, Step}
use Rattle.motion.specs.declared.calls.Call.TheVariants.{Put, Take, Mark, Unmark, Hand, Turn}
use Rattle.daybook.specs.Input.{line_end}
use Rattle.daybook.specs.Line.{written, NumbersFit, Says, line_of, act_of, byte_of, move_of, two_sections, section_of, last_section, number_of, at_end, largest, blank}
use Rattle.daybook.proofs.Numbers.{NumberWritten, number_read, number_written}

-- what an act is written as says that act
section_read : (s : ℕ) → s ≤ largest → section_of (blank ∷ (decimal s ++ (line_end ∷ []))) ≡ Some s
section_read s fits = ap last_section (number_read line_end [] refl s fits)

move_read :
    (m : Move)
    → m.from ≤ largest
    → m.to ≤ largest
    → move_of (blank ∷ (decimal m.from ++ (blank ∷ (decimal m.to ++ (line_end ∷ []))))) ≡ Some m
move_read m from_fits to_fits =
    ap two_sections (number_read blank (decimal m.to ++ (line_end ∷ [])) refl m.from from_fits)
    ∙ ap (option_map (λ to. record { from = m.from; to = to })) (section_read m.to to_fits)

act_read : (a : Act) → NumbersFit a → line_of (written a) ≡ Some a
act_read (Called (Put s)) fits = ap (option_map (λ s. Called (Put s))) (section_read s fits)
act_read (Called (Take s)) fits = ap (option_map (λ s. Called (Take s))) (section_read s fits)
act_read (Called (Mark s)) fits = ap (option_map (λ s. Called (Mark s))) (section_read s fits)
act_read (Called (Unmark s)) fits = ap (option_map (λ s. Called (Unmark s))) (section_read s fits)
act_read (Called (Hand m)) fits = ap (option_map (λ m. Called (Hand m))) (move_read m fits.0 fits.1)
act_read (Called Turn) fits = refl
act_read Step fits = refl

-- what holds of a value that is found under a test, or by way of another
found_if : {A : Type 0} (P : A → Type 0) (t : Bool) (x : A) → (t ≡ true → P x) → IfSome (then_some t x) P
found_if P true x holds = holds refl
found_if P false x holds = tt

found_mapped : {A B : Type 0} (f : A → B) (P : A → Type 0) (Q : B → Type 0) → ((x : A) → P x → Q (f x)) → (o : Option A) → IfSome o P → IfSome (option_map f o) Q
found_mapped f P Q holds None was = tt
found_mapped f P Q holds (Some x) was = holds x was

-- what follows the letter: the end of the line, a section, a move
end_written : (rest : List ℕ) → at_end rest ≡ true → rest ≡ line_end ∷ []
end_written [] end = absurd (omega (arith, eqb-true 0 1 end))
end_written (b ∷ []) end = ap (λ e. e ∷ []) (eqb-true b line_end end)
end_written (b ∷ d ∷ bs) end =
    let e = eqb-true (length (b ∷ d ∷ bs)) 1 (and_parts (eqb (length (b ∷ d ∷ bs)) 1) (eqb b line_end) end).0 in
    absurd (omega arith)

abbrev SectionWritten : List ℕ → ℕ → Type 0
SectionWritten rest s = NumberWritten rest (s, line_end ∷ [])

abbrev MoveWritten : List ℕ → Move → Type 0
MoveWritten rest m = NumberWritten rest (m.from, blank ∷ (decimal m.to ++ (line_end ∷ []))) × (m.to ≤ largest)

then_end : (s : List ℕ) (o : Option (ℕ × List ℕ)) → IfSome o (NumberWritten s) → IfSome (last_section o) (SectionWritten s)
then_end s None was = tt
then_end s (Some (n, rest)) was =
    found_if (SectionWritten s) (at_end rest) n
    (λ end. (was.0 ∙ ap (λ t. blank ∷ (decimal n ++ t)) (end_written rest end), was.1))

section_written : (s : List ℕ) → IfSome (section_of s) (SectionWritten s)
section_written s = then_end s (number_of s) (number_written s)

then_section : (s : List ℕ) (o : Option (ℕ × List ℕ)) → IfSome o (NumberWritten s) → IfSome (two_sections o) (MoveWritten s)
then_section s None was = tt
then_section s (Some (n, rest)) was =
    found_mapped _ (SectionWritten rest) (MoveWritten s)
    (λ to e. ((was.0 ∙ ap (λ t. blank ∷ (decimal n ++ t)) e.0, was.1), e.1)) (section_of rest) (section_written rest)

move_written : (s : List ℕ) → IfSome (move_of s) (MoveWritten s)
move_written s = then_section s (number_of s) (number_written s)

-- an act that is read of a line is written as that line
abbrev IsWritten : List ℕ → Act → Type 0
IsWritten line a = (line ≡ written a) × NumbersFit a

module _ (rest : List ℕ) where
  with_section :
      (l : ℕ) (make : ℕ → Act)
      → ((s : ℕ) → l ∷ blank ∷ (decimal s ++ (line_end ∷ [])) ≡ written (make s))
      → ((s : ℕ) → s ≤ largest → NumbersFit (make s))
      → IfSome (option_map make (section_of rest)) (IsWritten (l ∷ rest))
  with_section l make form fit =
      found_mapped make (SectionWritten rest) (IsWritten (l ∷ rest)) (λ s e. (ap (λ t. l ∷ t) e.0 ∙ form s, fit s e.1))
      (section_of rest) (section_written rest)

  with_move : IfSome (option_map (λ m. Called (Hand m)) (move_of rest)) (IsWritten (byte_of "m" ∷ rest))
  with_move =
      found_mapped _ (MoveWritten rest) (IsWritten (byte_of "m" ∷ rest))
      (λ m e. (ap (λ t. byte_of "m" ∷ t) e.0.0, (e.0.1, e.1))) (move_of rest) (move_written rest)

  with_nothing :
      (l : ℕ) (a : Act)
      → l ∷ line_end ∷ [] ≡ written a
      → NumbersFit a
      → IfSome (then_some (at_end rest) a) (IsWritten (l ∷ rest))
  with_nothing l a form fit =
      found_if (IsWritten (l ∷ rest)) (at_end rest) a (λ end. (ap (λ t. l ∷ t) (end_written rest end) ∙ form, fit))

  by_letter :
      (letter l : ℕ) (o other : Option Act)
      → IfSome o (IsWritten (l ∷ rest))
      → IfSome other (IsWritten (letter ∷ rest))
      → IfSome (cond (eqb letter l) o other) (IsWritten (letter ∷ rest))
  by_letter letter l o other this that =
      let P : Option Act → Type 0 = λ o. IfSome o (IsWritten (letter ∷ rest)) in
      cond_both (eqb letter l) o other P (λ is. rw (eqb-true letter l is) this) (λ _. that)

  act_written : (letter : ℕ) → IfSome (act_of letter rest) (IsWritten (letter ∷ rest))
  act_written letter =
      by_letter letter (byte_of "p") _ _ (with_section (byte_of "p") (λ s. Called (Put s)) (λ _. refl) (λ _ fits. fits))
      (by_letter letter (byte_of "t") _ _ (with_section (byte_of "t") (λ s. Called (Take s)) (λ _. refl) (λ _ fits. fits))
      (by_letter letter (byte_of "b") _ _ (with_section (byte_of "b") (λ s. Called (Mark s)) (λ _. refl) (λ _ fits. fits))
      (by_letter letter (byte_of "u") _ _ (with_section (byte_of "u") (λ s. Called (Unmark s)) (λ _. refl) (λ _ fits. fits))
      (by_letter letter (byte_of "m") _ _ with_move
      (by_letter letter (byte_of "n") _ _ (with_nothing (byte_of "n") (Called Turn) refl tt)
      (by_letter letter (byte_of "s") _ _ (with_nothing (byte_of "s") Step refl tt) tt))))))

line_written : (line : List ℕ) → IfSome (line_of line) (IsWritten line)
line_written [] = tt
line_written (letter ∷ rest) = act_written rest letter

says : (line : List ℕ) (o : Option Act) → o ≡ line_of line → IfSome o (IsWritten line) → Says line o
says line (Some a) e was = was
says line None e was = λ a fits same.
    let read = e ∙ (ap line_of same ∙ act_read a fits) in
    let z : ◌≡◌ {A = ℕ} 0 1 = cc in
    omega arith

-- so what is read of a line is what it says
pub line_says : (line : List ℕ) (o : Option Act) → o ≡ line_of line → Says line o
line_says line o e = says line o e (rw e (line_written line))
