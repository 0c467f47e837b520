-- The digits of a number, byte by byte.
use Rattle.std.proofs.Common.{◌≡◌, ℕ, ◌+◌, ◌^◌, ◌<◌, ◌≤◌, true, false, cond, ltb, List, [], ◌∷◌, length, get_or, drop, Some, None, Ok, Err, Result, MatchOption, ap, ◌∙◌, arith, rules, tests}
use Rattle.std.specs.Char.{is_ascii_digit}
use Rattle.std.specs.Result.{OkIff, result_ok}
use Rattle.std.proofs.lemmas.List.{drop_more, at_drop_more, at_drop_all}
use Rattle.std.proofs.lemmas.Bool.{eq-eqb, ne_eqb, lt-ltb, le-ltb}
use Rattle.daybook.specs.Line.{digits_from, number_of, with_digit, byte_of, blank, largest}

module _ (s : List ℕ) (i n : ℕ) where
  step :
      i < length s
      → digits_from n (drop i s)
      ≡ cond (is_ascii_digit (get_or s i 0))
      (cond (ltb largest (with_digit n (get_or s i 0))) None (digits_from (with_digit n (get_or s i 0)) (drop (i + 1) s)))
      (Some (n, get_or s i 0 ∷ drop (i + 1) s))
  unfolding digits_from
  step within = at_drop_more (digits_from n) s i 0 within

  -- another byte ends the number
  pub stops : i < length s → is_ascii_digit (get_or s i 0) ≡ false → digits_from n (drop i s) ≡ Some (n, drop i s)
  stops within other = step within ∙ rw (other, ← drop_more s i 0 within)

  pub too_large : i < length s → is_ascii_digit (get_or s i 0) ≡ true → largest < with_digit n (get_or s i 0) → digits_from n (drop i s) ≡ None
  too_large within digit large = step within ∙ rw (digit, lt-ltb largest (with_digit n (get_or s i 0)) large)

  pub goes_on :
      i < length s
      → is_ascii_digit (get_or s i 0) ≡ true
      → with_digit n (get_or s i 0) ≤ largest
      → digits_from n (drop i s) ≡ digits_from (with_digit n (get_or s i 0)) (drop (i + 1) s)
  goes_on within digit fits = step within ∙ rw (digit, le-ltb largest (with_digit n (get_or s i 0)) fits)

  pub nothing_follows : length s ≤ i → digits_from n (drop i s) ≡ None
  unfolding digits_from
  nothing_follows past = at_drop_all (digits_from n) s i past

-- a number that fits, or is too large
pub fitted : {E : Type 0} (r : Result ℕ E) (v : ℕ) → OkIff r (v < 2 ^ 16) v → MatchOption (result_ok r) (largest < v) (λ n. (n ≡ v) × (v ≤ largest))
fitted (Ok n) v is = (is.1, omega (arith, is.0))
fitted (Err e) v is = omega (arith, is)

-- a blank and digits that do not begin with 0
pub read_on :
    (s : List ℕ)
    → get_or s 0 0 ≡ blank
    → byte_of "1" ≤ get_or (drop 1 s) 0 0
    → get_or (drop 1 s) 0 0 ≤ byte_of "9"
    → number_of s ≡ digits_from 0 (drop 1 s)
unfolding digits_from
read_on [] b low high = absurd (omega arith)
read_on (b ∷ []) e low high = absurd (omega arith)
read_on (b ∷ d ∷ ds) e low high =
    let digit : is_ascii_digit d ≡ true = search (rules, tests) in
    rw (eq-eqb b blank e, ne_eqb d (byte_of "0") (λ z. omega arith), digit, le-ltb largest (with_digit 0 d) (omega arith)) (ap (λ n. digits_from n ds) (omega arith))
