-- The tariffs keep the laws: opaque lemmas, which only the impls cite.
use Rattle.std.specs.Prelude.{ℕ, List}
use Rattle.std.proofs.Common.{rules}
use Rattle.tariff.specs.Rule.{Rule, Laws, Total, NoChargeOutside}
use Rattle.tariff.specs.Amounts.{amount_rule, amount_same}
use Rattle.tariff.specs.Grades.{grade_rule}
use Rattle.tariff.specs.Pairs.{pair_rule}

module _ (each : ℕ → ℕ) where
  pub amount_laws : Laws (amount_rule each)
  amount_laws = search (rules, amount_same)

  pub amount_total : Total (amount_rule each)
  amount_total = search rules

  pub amount_outside : NoChargeOutside (amount_rule each)
  amount_outside = search rules

module _ (inward outward : List ℕ) where
  pub grade_laws : Laws (grade_rule inward outward)
  grade_laws = search rules

  pub grade_total : Total (grade_rule inward outward)
  grade_total = search rules

  pub grade_outside : NoChargeOutside (grade_rule inward outward)
  grade_outside = search rules

module _ {X Y : Type 0} (f : Rule X) (g : Rule Y) where
  pub pair_laws : Laws f → Laws g → Laws (pair_rule f g)
  pair_laws one two = search rules

  pub pair_total : Total f → Total g → Total (pair_rule f g)
  pair_total one two = search rules

  pub pair_outside : NoChargeOutside f → NoChargeOutside g → NoChargeOutside (pair_rule f g)
  pair_outside one two = search rules
