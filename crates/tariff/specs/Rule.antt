-- What a tariff means, and the laws that belong to it.
use Rattle.std.specs.Prelude.{◌≡◌, ℕ, ◌<◌, Bool, true, false}
use Rattle.motion.specs.declared.ways.Way.{Way}

pub record Rule (S : Type 0) : Type 0 where
  -- the sum called nothing
  pub none : S
  -- the charge of a move, by its higher-numbered section and its way
  pub cost : ℕ → Way → S
  -- two sums joined
  pub plus : S → S → S
  -- whether a sum is not more than another
  pub within : S → S → Bool

pub record Laws {S : Type 0} (rule : Rule S) : Type 0 where
  pub unit : (a : S) → rule.plus rule.none a ≡ a
  pub comm : (a b : S) → rule.plus a b ≡ rule.plus b a
  pub assoc : (a b c : S) → rule.plus (rule.plus a b) c ≡ rule.plus a (rule.plus b c)
  pub grows : (a b : S) → rule.within a (rule.plus a b) ≡ true
  pub same : (a : S) → rule.within a a ≡ true
  pub chain : (a b c : S) → rule.within a b ≡ true → rule.within b c ≡ true → rule.within a c ≡ true

-- of any two sums one is not more than the other
abbrev pub Total : {S : Type 0} → Rule S → Type 0
Total {S} rule = (a b : S) → rule.within a b ≡ false → rule.within b a ≡ true

-- the highest section that can be the higher one of a move
abbrev pub highest : ℕ
highest = 511

-- section 0 is never the higher section of a move, and there are none above the highest: their charge is nothing
pub record NoChargeOutside {S : Type 0} (rule : Rule S) : Type 0 where
  pub neck : (w : Way) → rule.cost 0 w ≡ rule.none
  pub past : (s : ℕ) (w : Way) → highest < s → rule.cost s w ≡ rule.none
