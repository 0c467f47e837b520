-- How the text of a day goes on.
use Rattle.std.proofs.Common.{◌≡◌, ℕ, List, [], ◌∷◌, ◌++◌, length, sym, ap, ◌∙◌, append_assoc, arith}
use Rattle.std.proofs.lemmas.List.{append-nil}
use Rattle.motion.specs.State.{State}
use Rattle.daybook.specs.Input.{cut}
use Rattle.daybook.specs.Answer.{answer_shown}
use Rattle.daybook.specs.Day.{ended, Answers, OneMore, More}

-- the first line's answer, and then those of the rest, are those of all
pub more_first :
    (line : List ℕ) (lines all : List (List ℕ)) (x y : State) (text then whole : List ℕ)
    → all ≡ line ∷ lines
    → OneMore line x y text then
    → More lines y then whole
    → More all x text whole
more_first line lines all x y text then whole is (a, answered, wrote) (rest, answers, follows) =
    let e = follows ∙ (ap (λ t. t ++ rest) wrote ∙ append_assoc text (ended (answer_shown a)) rest) in
    rw is (ended (answer_shown a) ++ rest, Answers.then a answered answers, e)

-- without lines the text is the whole
pub more_none : (s : List ℕ) (x : State) (text : List ℕ) → length s ≡ 0 → More (cut s) x text text
unfolding cut
more_none [] x text none = ([], Answers.none, sym (append-nil text))
more_none (b ∷ bs) x text none = absurd (omega arith)
