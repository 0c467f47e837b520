-- The lines that bytes are cut into, one after another.
use Rattle.std.proofs.Common.{◌≡◌, ℕ, zero, suc, ◌+◌, ◌<◌, min, Bool, true, false, eqb, List, [], ◌∷◌, ◌++◌, length, length-append, Some, Option, MatchOption, ap, arith}
use denote.Param.Members.{Mut}
use denote.Ref.{Bor}
use Rattle.std.specs.Fn.{Called, ComputesKey}
use Rattle.std.specs.List.{IsFirstMatchOrLen}
use Rattle.std.proofs.lemmas.Fn.{always_returns_same}
use Rattle.std.proofs.lemmas.List.{nil_from_length}
use Rattle.daybook.specs.Input.{line_end, before_lines, cut}

abbrev ends : ℕ → Bool
ends b = eqb b line_end

-- what is cut off up to the first byte that ends a line, and with it, is the first line
cut_first :
    (s x t : List ℕ) (i : ℕ)
    → 0 < length s
    → s ≡ x ++ t
    → length x ≡ min (i + 1) (length s)
    → IsFirstMatchOrLen ends s i
    → cut s ≡ x ∷ cut t
unfolding cut
cut_first [] x t i some whole len first = absurd (omega arith)
cut_first (b ∷ bs) [] t i some whole len first = absurd (omega arith)
cut_first (b ∷ bs) (c ∷ y) t zero some whole len first =
    let end : ends b ≡ true = first.1 some 0 in
    let none : y ≡ [] = nil_from_length y (omega arith) in
    let same : b ≡ c = cc in
    let rest : bs ≡ y ++ t = cc in
    rw (end, same, rest, none)
cut_first (b ∷ []) (c ∷ y) t (suc i) some whole len first =
    let inside : ends b ≡ false = first.0 0 0 (omega arith) (omega arith) in
    let same : b ≡ c = cc in
    let none : y ≡ [] = nil_from_length y (omega arith) in
    let left : t ≡ [] = nil_from_length t (omega (arith, simp length-append at (ap length whole))) in
    rw (inside, same, none, left)
cut_first (b ∷ d ∷ ds) (c ∷ y) t (suc i) some whole len first =
    let inside : ends b ≡ false = first.0 0 0 (omega arith) (omega arith) in
    let same : b ≡ c = cc in
    let rest : d ∷ ds ≡ y ++ t = cc in
    let more = cut_first (d ∷ ds) y t i (omega arith) rest (omega arith) (λ k e low high. first.0 (suc k) e (omega arith) (omega arith), λ within e. first.1 (omega arith) e) in
    rw (inside, ← same) (ap (before_lines false b) more)

-- so each step of `split_inclusive` takes off the first line
pub next_line :
    {F : Type 0} {g : Mut F (Bor ℕ × Unit {0}) Bool} (P : Type 0) (f h : F) (s t : List ℕ) (r : Option (Bor (List ℕ))) (x : Bor (List ℕ))
    → r ≡ Some x
    → MatchOption r P (λ x. (s ≡ x.now ++ t)
    × ((i : ℕ) × (length x.now ≡ min (i + 1) (length s)) × ((p : ℕ → Bool) → ComputesKey g p f → ComputesKey g p h × IsFirstMatchOrLen p s i)) × (0 < length s))
    → ((a : Bor ℕ × Unit {0}) (e : Bool) (k : F) → Called g f a e k → (e ≡ ends a.0.now) × (k ≡ f))
    → cut s ≡ x.now ∷ cut t
next_line {g = g} P f h s t r x is steps computes =
    let step = rw is at steps in
    let key : ComputesKey g ends f = always_returns_same g (λ a e. e ≡ ends a.0.now) f computes in
    cut_first s x.now t step.1.0 step.2 step.0 step.1.1 (step.1.2 ends key).1
