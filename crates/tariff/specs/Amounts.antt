-- Amounts: numbers of moves or of metres, which stop at the largest.
use Rattle.std.specs.Prelude.{◌≡◌, ℕ, ◌+◌, ◌^◌, ◌<◌, min, Bool, if◌then◌else◌, nat_le}
use mathlib.Core.HLevel.{is_prop→PathP}
use Rattle.std.proofs.Math.Bridge.{le_prop}
use Rattle.std.proofs.Common.{arith}
use Rattle.tariff.specs.Rule.{Rule, highest}
use Rattle.tariff.specs.declared.amount.Amount.{Amount}

abbrev pub largest : ℕ
largest = 4294967295

-- two amounts with one value are one amount
pub amount_same : (a b : Amount) → a.value ≡ b.value → a ≡ b
amount_same a b e =
    λ i. record {
      value = e i;
      fits = is_prop→PathP (λ k. e k < 2 ^ 32) (λ k. le_prop) a.fits b.fits i;
    }

pub capped_fits : (n : ℕ) → min n largest < 2 ^ 32
capped_fits n = omega arith

-- the amount of a number, or the largest where the number is larger
abbrev pub capped : ℕ → Amount
capped n = record { value = min n largest; fits = capped_fits n }

abbrev pub plus_amount : Amount → Amount → Amount
plus_amount a b = capped (a.value + b.value)

abbrev pub le_amount : Amount → Amount → Bool
le_amount a b = nat_le a.value b.value

-- what a section from 1 to the highest has, and 0 elsewhere
abbrev pub inside : ℕ → ℕ → ℕ
inside s n = if nat_le s 0 then 0 else (if nat_le s highest then n else 0)

-- each section has its number, and both ways cost the same
abbrev pub amount_rule : (ℕ → ℕ) → Rule Amount
amount_rule each =
    record {
      none = capped 0;
      cost = λ s w. capped (inside s (each s));
      plus = plus_amount;
      within = le_amount;
    }
