-- What is answered where a standing is to be written.
use Rattle.std.proofs.Common.{◌≡◌, ℕ, ◌≤◌, true, List, length, take, is_ok, Ok, Err, Result, refl, ◌∙◌, arith}
use Rattle.refusal.specs.declared.Refusal.{Refusal}
use Rattle.standing.specs.Standings.{Stands, NumbersRoundTrip, writing_of}
use Rattle.standing.proofs.Counts.{enough}
use Rattle.standing.proofs.Dense.{none_above, none_twice}

-- a standing is written where there is room
pub standing_written : {n k x : ℕ} {s : List ℕ} (room : ℕ) → Stands n k x s → n ≤ room → writing_of n k x room ≡ Ok tt
standing_written {n} {k} {x} {s} room stands h = grind (arith, none_above, enough)

accepted_of : (r : Result (Unit {0}) Refusal) → is_ok r ≡ true → r ≡ Ok tt
accepted_of (Ok u) h = refl
accepted_of (Err e) h = cc

-- what is answered so, and writes a standing where it is done, keeps the promise
pub round_trip :
    (n k x : ℕ) (before after : List ℕ) (r : Result (Unit {0}) Refusal)
    → r ≡ writing_of n k x (length before)
    → (r ≡ Ok tt → Stands n k x (take n after))
    → NumbersRoundTrip n k x before after r
round_trip n k x before after r answer written =
    record {
      number_again = λ t. written (accepted_of r t);
      standing_again =
          λ s stands room.
          let w : r ≡ Ok tt = answer ∙ standing_written (length before) stands room in
          (w, none_twice n k x (take n after) s (written w) stands);
    }
