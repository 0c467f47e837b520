-- Which standings there are, and the standing that has a number.
use Rattle.std.specs.Prelude.{◌≡◌, ℕ, ◌<◌, ◌≤◌, true, cond, ◌||◌, List, length, take, is_ok, Ok, Err, Result, nat_le, nat_lt}
use Rattle.refusal.specs.declared.Refusal.{Refusal}
use Rattle.refusal.specs.declared.Refusal.TheVariants.{SizeOutOfRange, NoStanding, OutOfRoom}
use Rattle.standing.specs.Choose.{choose}
use Rattle.standing.specs.Number.{out_of_range, number_of}

-- s is a standing of n sections with k wagons, and its number is x
pub record Stands (n k x : ℕ) (s : List ℕ) : Type 0 where
  pub size : length s ≡ n
  pub numbered : number_of s ≡ Ok (record { wagons = k; number = x })

-- how many standings of n sections with k wagons there are, or the refusal
abbrev pub count_of : ℕ → ℕ → Result ℕ Refusal
count_of n k = cond (out_of_range n) (Err SizeOutOfRange) (Ok (choose n k))

-- the numbers of the standings of n sections with k wagons are 0 to count - 1, each for one standing
pub record NumbersAreDense (n k count : ℕ) : Type 0 where
  pub none_above : (x : ℕ) (s : List ℕ) → Stands n k x s → x < count
  pub none_missing : (x : ℕ) → x < count → (s : List ℕ) × Stands n k x s
  pub none_twice : (x : ℕ) (s t : List ℕ) → Stands n k x s → Stands n k x t → s ≡ t

-- what is answered where the standing of n sections with k wagons and the number x is to be written into a buffer
-- of so many bytes: that it is written, or the first refusal that applies
abbrev pub writing_of : ℕ → ℕ → ℕ → ℕ → Result (Unit {0}) Refusal
writing_of n k x room =
    cond (out_of_range n) (Err SizeOutOfRange)
    (cond (nat_lt n k || nat_le (choose n k) x) (Err NoStanding) (cond (nat_lt room n) (Err OutOfRoom) (Ok tt)))

-- what is written for a number has that number; and for the number of a standing, that standing is written where it fits
pub record NumbersRoundTrip (n k x : ℕ) (before after : List ℕ) (r : Result (Unit {0}) Refusal) : Type 0 where
  pub number_again : is_ok r ≡ true → Stands n k x (take n after)
  pub standing_again : (s : List ℕ) → Stands n k x s → n ≤ length before → (r ≡ Ok tt) × (take n after ≡ s)
