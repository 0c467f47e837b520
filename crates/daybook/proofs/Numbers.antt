-- A number in a line: what is read of a written one, and how one is written that was read.
use Rattle.std.proofs.Common.{◌≡◌, ℕ, ◌^◌, ◌<◌, ◌≤◌, true, false, cond, eqb, ltb, leb, List, [], ◌∷◌, ◌++◌, get_or, IfSome, Some, None, decimal, Option, sym, refl, ap, ◌∙◌, ⊎_elim, arith, rules}
use Rattle.std.specs.Char.{is_ascii_digit}
use Rattle.std.specs.Str.{all_ascii_digits}
use Rattle.std.proofs.lemmas.Fmt.{decimal_digit, first_decimal, digits_decimal, digits_value-decimal, decimal-digits_value}
use Rattle.std.proofs.lemmas.Str.Parse.{IsNumeralModel, numerals_by_fold}
use Rattle.std.proofs.lemmas.Bool.{ltb-false, leb-true, eqb-true, eqb-false, le-ltb, ne_eqb, and_parts, and_from, cond_both, cases_eq}
use Rattle.daybook.specs.Line.{digits_from, number_from, number_of, digit_worth, with_digit, byte_of, largest, blank}

-- the number that digits make after n
abbrev pub made_of : ℕ → List ℕ → ℕ
made_of n [] = n
made_of n (d ∷ ds) = made_of (with_digit n d) ds

pub own : IsNumeralModel (λ ds. all_ascii_digits ds ≡ true) (made_of 0)
own = numerals_by_fold _ (search rules) made_of (search rules)

-- so the first digit makes a number, and the others go on from it
first_makes : (d : ℕ) (ds : List ℕ) → made_of (digit_worth d) ds ≡ made_of 0 (d ∷ ds)
first_makes d ds = ap (λ n. made_of n ds) (omega arith)

-- digits make no number smaller
grows : (n : ℕ) (ds : List ℕ) → n ≤ made_of n ds
grows n [] = omega arith
grows n (d ∷ ds) = let h = grows (with_digit n d) ds in omega arith

-- a number is read up to the first byte that is no digit
module _ (e : ℕ) (rest : List ℕ) (other : is_ascii_digit e ≡ false) where
  pub digits_read :
      (n : ℕ) (ds : List ℕ)
      → all_ascii_digits ds ≡ true
      → made_of n ds ≤ largest
      → digits_from n (ds ++ (e ∷ rest)) ≡ Some (made_of n ds, e ∷ rest)
  unfolding digits_from
  digits_read n [] digits fits = rw other
  digits_read n (d ∷ ds) digits fits =
      let h = and_parts (is_ascii_digit d) (all_ascii_digits ds) digits in
      let g = grows (with_digit n d) ds in
      rw (h.0, le-ltb largest (with_digit n d) (omega arith)) (digits_read (with_digit n d) ds h.1 fits)

  some_read :
      (ds : List ℕ)
      → all_ascii_digits ds ≡ true
      → made_of 0 ds ≤ largest
      → byte_of "0" < get_or ds 0 0
      → number_of (blank ∷ (ds ++ (e ∷ rest))) ≡ Some (made_of 0 ds, e ∷ rest)
  some_read [] digits fits high = absurd (omega arith)
  some_read (d ∷ ds) digits fits high =
      let h = and_parts (is_ascii_digit d) (all_ascii_digits ds) digits in
      let same = first_makes d ds in
      rw (ne_eqb d (byte_of "0") (λ e. omega arith), h.0)
      (digits_read (digit_worth d) ds h.1 (omega arith) ∙ ap (λ v. Some (v, e ∷ rest)) same)

  -- a number that is written is read
  pub number_read : (n : ℕ) → n ≤ largest → number_of (blank ∷ (decimal n ++ (e ∷ rest))) ≡ Some (n, e ∷ rest)
  number_read n fits =
      let value = digits_value-decimal own n (omega arith) in
      let read = some_read (decimal n) (digits_decimal own n (omega arith)) (omega arith) in
      ⊎_elim (λ zero. rw (zero, decimal_digit 0 (omega arith)))
      (λ some. read (first_decimal n (omega arith) (omega arith)) ∙ ap (λ v. Some (v, e ∷ rest)) value) (cases_eq n 0)

-- a number and the rest were read of bytes, after n
record Read (n : ℕ) (s : List ℕ) (p : ℕ × List ℕ) : Type 0 where
  pub front : List ℕ
  pub digits : all_ascii_digits front ≡ true
  pub whole : s ≡ front ++ p.1
  pub value : p.0 ≡ made_of n front
  pub fits : p.0 ≤ largest

one_more :
    (n b : ℕ) (bs : List ℕ) (o : Option (ℕ × List ℕ))
    → is_ascii_digit b ≡ true
    → IfSome o (Read (with_digit n b) bs)
    → IfSome o (Read n (b ∷ bs))
one_more n b bs None digit was = tt
one_more n b bs (Some p) digit was = record {
  front = b ∷ was.front;
  digits = and_from (is_ascii_digit b) (all_ascii_digits was.front) digit was.digits;
  whole = ap (λ t. b ∷ t) was.whole;
  value = was.value;
  fits = was.fits;
}

-- a number that is too large is none
unless_larger :
    (P : ℕ × List ℕ → Type 0) (n : ℕ) (o : Option (ℕ × List ℕ))
    → (n ≤ largest → IfSome o P)
    → IfSome (cond (ltb largest n) None o) P
unless_larger P n o holds =
    cond_both (ltb largest n) None o (λ o. IfSome o P) (λ _. tt) (λ small. holds (ltb-false largest n small))

was_read : (n : ℕ) (s : List ℕ) → n ≤ largest → IfSome (digits_from n s) (Read n s)
unfolding digits_from
was_read n [] fits = tt
was_read n (b ∷ bs) fits =
    let P : Option (ℕ × List ℕ) → Type 0 = λ o. IfSome o (Read n (b ∷ bs)) in
    let m = with_digit n b in
    cond_both (is_ascii_digit b) _ _ P
    (λ digit. unless_larger (Read n (b ∷ bs)) m (digits_from m bs) (λ fits. one_more n b bs (digits_from m bs) digit (was_read m bs fits)))
    (λ _. record { front = []; digits = refl; whole = refl; value = refl; fits = fits })

-- the bytes are a blank, the number, and the rest
abbrev pub NumberWritten : List ℕ → ℕ × List ℕ → Type 0
NumberWritten s p = (s ≡ blank ∷ (decimal p.0 ++ p.1)) × (p.0 ≤ largest)

then_written :
    (d : ℕ) (ds : List ℕ) (o : Option (ℕ × List ℕ))
    → is_ascii_digit d ≡ true
    → (d ≡ byte_of "0" → ⊥)
    → IfSome o (Read (digit_worth d) ds)
    → IfSome o (NumberWritten (blank ∷ d ∷ ds))
then_written d ds None digit some was = tt
then_written d ds (Some (v, rest)) digit some was =
    let digits = and_from (is_ascii_digit d) (all_ascii_digits was.front) digit was.digits in
    let value = was.value ∙ first_makes d was.front in
    let small : made_of 0 (d ∷ was.front) < 2 ^ 64 = omega (arith, value, was.fits) in
    let e = ap decimal value ∙ decimal-digits_value own (d ∷ was.front) digits (omega arith) (λ zero. absurd (some zero)) small in
    (ap (λ t. blank ∷ d ∷ t) was.whole ∙ ap (λ t. blank ∷ (t ++ rest)) (sym e), was.fits)

-- so they are where the first digit is not 0
some_written :
    (d : ℕ) (ds : List ℕ)
    → is_ascii_digit d ≡ true
    → (d ≡ byte_of "0" → ⊥)
    → IfSome (digits_from (digit_worth d) ds) (NumberWritten (blank ∷ d ∷ ds))
some_written d ds digit some =
    let high = leb-true d 57 (and_parts (leb 48 d) (leb d 57) digit).1 in
    then_written d ds (digits_from (digit_worth d) ds) digit some (was_read (digit_worth d) ds (omega arith))

from_written : (d : ℕ) (ds : List ℕ) → IfSome (number_from d ds) (NumberWritten (blank ∷ d ∷ ds))
from_written d ds =
    let P : Option (ℕ × List ℕ) → Type 0 = λ o. IfSome o (NumberWritten (blank ∷ d ∷ ds)) in
    let zero = byte_of "0" in
    cond_both (eqb d zero) _ _ P (λ is. rw (eqb-true d zero is, decimal_digit 0 (omega arith)) (refl, omega arith))
    (λ not. cond_both (is_ascii_digit d) _ _ P (λ digit. some_written d ds digit (eqb-false d zero not)) (λ _. tt))

-- a number that is read was written so
pub number_written : (s : List ℕ) → IfSome (number_of s) (NumberWritten s)
number_written [] = tt
number_written (b ∷ []) = tt
number_written (b ∷ d ∷ ds) =
    let P : Option (ℕ × List ℕ) → Type 0 = λ o. IfSome o (NumberWritten (b ∷ d ∷ ds)) in
    cond_both (eqb b blank) _ _ P (λ is. rw (eqb-true b blank is) (from_written d ds)) (λ _. tt)
