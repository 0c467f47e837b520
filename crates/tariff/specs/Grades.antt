-- The tariff that takes the steepest grade.
use Rattle.std.specs.Prelude.{ℕ, max, List, slice_index, nat_le}
use Rattle.tariff.specs.Rule.{Rule}
use Rattle.tariff.specs.Amounts.{inside}
use Rattle.tariff.specs.Tables.{by_way}

abbrev pub grade_rule : List ℕ → List ℕ → Rule ℕ
grade_rule inward outward =
    record {
      none = 0;
      cost = λ s w. inside s (slice_index (by_way inward outward w) s);
      plus = max;
      within = nat_le;
    }
