-- How the acts of lines go on.
use Rattle.std.proofs.Common.{◌≡◌, ℕ, List, [], ◌∷◌, ◌++◌, length, Some, None, Ok, Err, Result, IfErr, arith}
use Rattle.std.specs.Result.{IsErrAnd}
use Rattle.std.proofs.lemmas.List.{append-nil, append_assoc}
use Rattle.motion.specs.declared.calls.Act.{Act}
use Rattle.daybook.specs.Input.{cut}
use Rattle.daybook.specs.Line.{line_of}
use Rattle.refusal.specs.declared.Refusal.{Refusal}
use Rattle.refusal.specs.declared.Refusal.TheVariants.{BadLine}
use Rattle.daybook.specs.declared.acts.Unread.{Unread}
use Rattle.daybook.specs.declared.acts.Unread.TheVariants.{Refused}
use Rattle.daybook.specs.Acts.{Say, NoActs, WhyUnread}

-- these acts have been read, and the lines of the rest are left: they are the acts of all lines with those of the rest,
-- and all lines say acts only if the rest do
pub record Read (all rest : List (List ℕ)) (acts : List Act) : Type 0 where
  pub on : (more : List Act) → Say rest more → Say all (acts ++ more)
  pub back : (whole : List Act) → Say all whole → (more : List Act) × Say rest more

say_tail : {line : List ℕ} {lines : List (List ℕ)} {acts : List Act} → Say (line ∷ lines) acts → (more : List Act) × Say lines more
say_tail (Say.then e rest) = (_, rest)

pub read_more :
    (all rest lines : List (List ℕ)) (line : List ℕ) (acts : List Act) (a : Act) → rest ≡ line ∷ lines → line_of line ≡ Some a
    → Read all rest acts → Read all lines (acts ++ a ∷ [])
read_more all rest lines line acts a is says read = record {
  on = λ more say.
      rw append_assoc (read.on (a ∷ more) (rw is (Say.then says say)));
  back = λ whole say.
      let r = read.back whole say in
      say_tail {line = line} (rw is at r.1);
}

says_none : {line : List ℕ} {lines : List (List ℕ)} {acts : List Act} → line_of line ≡ None → Say (line ∷ lines) acts → ⊥
says_none e (Say.then says rest) = let z : ◌≡◌ {A = ℕ} 0 1 = cc in omega arith

-- a line that says none
pub read_stops : (all rest lines : List (List ℕ)) (line : List ℕ) (acts : List Act) → rest ≡ line ∷ lines → line_of line ≡ None → Read all rest acts → NoActs all
read_stops all rest lines line acts is says read whole say =
    let r = read.back whole say in
    says_none {line = line} {lines = lines} says (rw is at r.1)

-- no line is left
pub read_all : (all : List (List ℕ)) (s : List ℕ) (acts : List Act) → length s ≡ 0 → Read all (cut s) acts → Say all acts
unfolding cut
read_all all [] acts e read = rw append-nil at (read.on [] Say.none)
read_all all (b ∷ bs) acts e read = absurd (omega arith)

-- and so the lines are refused as bad
pub bad_line :
    {A : Type 0} (r : Result A Unread) (lines : List (List ℕ)) (e : Refusal)
    → IsErrAnd r (λ u. u ≡ Refused e)
    → e ≡ BadLine
    → NoActs lines
    → IfErr r (WhyUnread lines)
bad_line (Ok x) lines e is bad none = tt
bad_line (Err u) lines e is bad none = rw is (bad, none)
