-- Two tariffs in one.
use Rattle.std.specs.Prelude.{Bool, true, false, cond}
use Rattle.tariff.specs.Rule.{Rule}
use Rattle.tariff.specs.declared.pair.Both.{Both}

module _ {X Y : Type 0} where
  abbrev pub both : X → Y → Both X Y
  both x y = record { first = x; second = y }

  -- the firsts are compared; where each is not more than the other, the seconds decide
  abbrev pub pair_within : (X → X → Bool) → (Y → Y → Bool) → Both X Y → Both X Y → Bool
  pair_within f g p q = cond (f p.first q.first) (cond (f q.first p.first) (g p.second q.second) true) false

  abbrev pub pair_rule : Rule X → Rule Y → Rule (Both X Y)
  pair_rule f g =
      record {
        none = both f.none g.none;
        cost = λ s w. both (f.cost s w) (g.cost s w);
        plus = λ p q. both (f.plus p.first q.first) (g.plus p.second q.second);
        within = pair_within f.within g.within;
      }
