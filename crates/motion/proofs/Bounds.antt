-- How large a demand and a figure can be.
use Rattle.std.proofs.Common.{ℕ, ◌+◌, ◌-◌, ◌*◌, ◌≤◌, List, get_or, nat_abs, arith}
use Rattle.motion.specs.Tree.{under, total}
use Rattle.motion.specs.Demand.{demand_of, figure_of, Single}
use Rattle.motion.proofs.Sums.{sum_below, sum_most}

-- what lies below a section is at most all
pub under_most : (n : ℕ) (inner xs : List ℕ) (s : ℕ) → under n inner xs s ≤ total n xs
unfolding under
under_most n inner xs s = grind (arith, sum_below)

pub total_most : (n : ℕ) (xs : List ℕ) → Single n xs → total n xs ≤ n
total_most n xs single = let h = sum_most (λ t. get_or xs t 0) 1 n single in omega arith

pub demand_most : (n : ℕ) (inner wagons berths : List ℕ) (most : ℕ) → total n wagons ≤ most → total n berths ≤ most → (s : ℕ) → nat_abs (demand_of n inner wagons berths s) ≤ most
demand_most n inner wagons berths most w b s = grind (arith, under_most)

pub figure_most : (n : ℕ) (inner wagons berths : List ℕ) (most : ℕ) → total n wagons ≤ most → total n berths ≤ most → figure_of n inner wagons berths ≤ (n - 1) * most
unfolding figure_of
figure_most n inner wagons berths most w b =
    sum_most (λ k. nat_abs (demand_of n inner wagons berths (k + 1))) most (n - 1) (λ k l. demand_most n inner wagons berths most w b (k + 1))

pub demands_within : (n : ℕ) (inner wagons berths : List ℕ) → n ≤ 512 → Single n wagons → Single n berths → (s : ℕ) → nat_abs (demand_of n inner wagons berths s) ≤ 512
demands_within n inner wagons berths h w b s = grind (arith, total_most, demand_most)

pub figures_within : (n : ℕ) (inner wagons berths : List ℕ) → n ≤ 512 → Single n wagons → Single n berths → figure_of n inner wagons berths ≤ 261632
figures_within n inner wagons berths h w b = grind (arith, total_most n wagons w, total_most n berths b, figure_most n inner wagons berths 512)
