-- Which branches of a section ask, and that one does.
use Rattle.std.proofs.lemmas.Bool.Decides.{nat_tests}
use Rattle.std.proofs.Common.{◌≡◌, ℕ, ◌<◌, ◌≤◌, cond, ◌⊎◌, List, pos, inl, inr, arith}
use Rattle.std.proofs.lemmas.Int.{ints}
use Rattle.motion.specs.Tree.{Tree, Branch, is_branch, total, under}
use Rattle.motion.specs.Demand.{demand_of, Single}
use Rattle.motion.specs.Visit.{Unsettled}
use Rattle.motion.specs.declared.ways.Way.{Way}
use Rattle.motion.specs.declared.ways.Way.TheVariants.{Outward, Inward}
use Rattle.motion.specs.Due.{Asks, Ready, Open, LowestAsking}
use Rattle.motion.specs.Stepping.{Even}
use Rattle.motion.proofs.Sums.{sum_same, sum_below}
use Rattle.motion.proofs.Underneath.{below_found}
use Rattle.motion.proofs.Splits.{sum_below_splits}
use Rattle.motion.proofs.Floors.{squeezed}
use Rattle.motion.proofs.Decided.{both, branch_or_not}
use Rattle.motion.proofs.Order.{below_the_neck}
use Rattle.motion.proofs.Least.{least}

-- of wagons and berths: what there is more of below a branch that asks, and what less
abbrev pub more : Way → List ℕ → List ℕ → List ℕ
more Outward wagons berths = berths
more Inward wagons berths = wagons

abbrev pub less : Way → List ℕ → List ℕ → List ℕ
less Outward wagons berths = wagons
less Inward wagons berths = berths

-- u is ready, or v open, by what each holds
pub ready_or_open : (way : Way) (wagons : List ℕ) (v : ℕ) → Ready way wagons v ⊎ Open way wagons v
ready_or_open Outward wagons v = grind arith
ready_or_open Inward wagons v = grind arith

pub some_way : (wagons : List ℕ) (u : ℕ) → (way : Way) × Ready way wagons u
some_way wagons u = grind (arith, ready_or_open Outward wagons u)

module _ (n : ℕ) (inner wagons berths : List ℕ) where
  -- to ask is to have more of the one below than of the other
  asks_if : (way : Way) (v : ℕ) → under n inner (less way wagons berths) v < under n inner (more way wagons berths) v → Asks way n inner wagons berths v
  asks_if Outward v l = grind arith
  asks_if Inward v l = omega (arith, ints)

  -- a branch that asks has a demand
  pub asks_not_0 : (way : Way) (v : ℕ) → Asks way n inner wagons berths v → demand_of n inner wagons berths v ≡ pos 0 → ⊥
  asks_not_0 Outward v asks none = grind arith
  asks_not_0 Inward v asks none = grind arith

  asks_or_not : (way : Way) (v : ℕ) → Asks way n inner wagons berths v ⊎ (Asks way n inner wagons berths v → ⊥)
  asks_or_not way v = grind arith

  demand_or_not : (v : ℕ) → (demand_of n inner wagons berths v ≡ pos 0) ⊎ (demand_of n inner wagons berths v ≡ pos 0 → ⊥)
  demand_or_not v = grind arith

  -- a branch of a settled section has no demand
  pub settled_zero : {u v : ℕ} → (Unsettled n inner wagons berths u → ⊥) → Branch n inner u v → demand_of n inner wagons berths v ≡ pos 0
  settled_zero {v = v} settled b = grind (arith, demand_or_not v)

  pub unsettled_or_not : (u : ℕ) → Unsettled n inner wagons berths u ⊎ (Unsettled n inner wagons berths u → ⊥)
  unsettled_or_not u =
      elim (least (λ k. Branch n inner u k × (demand_of n inner wagons berths k ≡ pos 0 → ⊥)) (λ k. grind arith) n) [
        | inl f ↦ inl (record { at = f.0; branch = f.1.holds.0; wants = f.1.holds.1 })
        | inr none ↦ inr (λ un. none un.at un.branch.within (un.branch, un.wants))
      ]

  -- the lowest branch of u that asks, if one does
  lowest_or_none : (way : Way) (u : ℕ) → ((v : ℕ) × LowestAsking way n inner wagons berths u v) ⊎ ((k : ℕ) → Branch n inner u k → Asks way n inner wagons berths k → ⊥)
  lowest_or_none way u = grind (arith, least (λ k. Branch n inner u k × Asks way n inner wagons berths k) (λ k. both (branch_or_not n inner u k) (asks_or_not way k)) n)

  module _ (tree : Tree n inner) (one : Single n berths) where
    -- where a section is ready, has no demand the other way, and no branch asks, there is no demand at all
    none_asks : (way : Way) (u : ℕ) → u < n → Ready way wagons u → under n inner (less way wagons berths) u ≤ under n inner (more way wagons berths) u
        → ((k : ℕ) → Branch n inner u k → Asks way n inner wagons berths k → ⊥)
        → (under n inner (less way wagons berths) u ≡ under n inner (more way wagons berths) u) × ((k : ℕ) → Branch n inner u k → demand_of n inner wagons berths k ≡ pos 0)
    none_asks way u l ready le none = grind (arith, nat_tests, sum_below_splits n inner tree (more way wagons berths) u l, sum_below_splits n inner tree (less way wagons berths) u l, asks_if way, squeezed (λ c. cond (is_branch inner u c) (under n inner (more way wagons berths) c) 0) (λ c. cond (is_branch inner u c) (under n inner (less way wagons berths) c) 0) n, sum_below (λ c. cond (is_branch inner u c) (under n inner (more way wagons berths) c) 0) (λ c. cond (is_branch inner u c) (under n inner (less way wagons berths) c) 0) n)

    -- a section that asks and is ready has a branch that asks
    pub asks_onward : (way : Way) (u : ℕ) → u < n → Ready way wagons u → Asks way n inner wagons berths u → (v : ℕ) × LowestAsking way n inner wagons berths u v
    asks_onward way u l ready asks = grind (arith, lowest_or_none way u, none_asks way u l ready)

    -- so has an unsettled one without a demand
    pub unsettled_asks : (way : Way) (u : ℕ) → u < n → Ready way wagons u → demand_of n inner wagons berths u ≡ pos 0 → Unsettled n inner wagons berths u
        → (v : ℕ) × LowestAsking way n inner wagons berths u v
    unsettled_asks way u l ready zero un = grind (arith, lowest_or_none way u, none_asks way u l ready)

-- all sections lie below the neck
pub under_neck : (n : ℕ) (inner xs : List ℕ) → Tree n inner → under n inner xs 0 ≡ total n xs
unfolding under
under_neck n inner xs tree = grind (arith, sum_same, below_found, below_the_neck)

-- with equal numbers the neck has no demand
pub neck_zero : (n : ℕ) (inner wagons berths : List ℕ) → Even n inner wagons berths → demand_of n inner wagons berths 0 ≡ pos 0
neck_zero n inner wagons berths even = grind (arith, under_neck)
