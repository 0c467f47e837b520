-- The charge of a list of moves.
use Rattle.std.specs.Prelude.{ℕ, zero, suc, ◌%◌, max, if◌then◌else◌, List, [], ◌∷◌, ◌==◌, nat_lt}
use Rattle.motion.specs.declared.moves.Move.{Move}
use Rattle.motion.specs.declared.ways.Way.{Way}
use Rattle.motion.specs.declared.ways.Way.TheVariants.{Inward, Outward}
use Rattle.tariff.specs.Rule.{Rule}

abbrev pub higher : Move → ℕ
higher m = max m.from m.to

-- inward leads to the lower number
abbrev pub way_of : Move → Way
way_of m = if nat_lt m.to m.from then Inward else Outward

-- a move's charge depends on its higher-numbered section and its way
abbrev pub charge_of : {S : Type 0} → Rule S → Move → S
charge_of rule m = rule.cost (higher m) (way_of m)

-- each move's charge joined to a sum, in turn
abbrev pub joined_from : {S : Type 0} → Rule S → S → List Move → S
joined_from rule sum [] = sum
joined_from rule sum (m ∷ ms) = joined_from rule (rule.plus sum (charge_of rule m)) ms

-- the charge of a list begins with nothing
abbrev pub charged : {S : Type 0} → Rule S → List Move → S
charged rule ms = joined_from rule rule.none ms

-- a charge joined so many times, beginning with nothing
unfoldable pub times : {S : Type 0} → Rule S → S → ℕ → S
times rule a zero = rule.none
times rule a (suc k) = rule.plus a (times rule a k)

-- joined where a number is odd
abbrev pub joined_if_odd : {S : Type 0} → Rule S → S → S → ℕ → S
joined_if_odd rule sum a k = if k % 2 == 1 then rule.plus sum a else sum

-- what the crossings of sections 1 to k come to, where s is crossed as often each way as `asked` says
unfoldable pub by_sections : {S : Type 0} → Rule S → (Way → ℕ → ℕ) → ℕ → S
by_sections rule asked zero = rule.none
by_sections rule asked (suc k) =
    rule.plus (by_sections rule asked k)
    (rule.plus (times rule (rule.cost (suc k) Outward) (asked Outward (suc k))) (times rule (rule.cost (suc k) Inward) (asked Inward (suc k))))
