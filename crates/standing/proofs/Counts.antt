-- Numbers of choices: how they grow, and what is left of a number when one of them is taken off.
use Rattle.std.proofs.Common.{◌≡◌, ℕ, zero, suc, ◌+◌, ◌-◌, ◌^◌, ◌<◌, ◌≤◌, refl, not-suc-le-zero, add-one, arith, pow_mono}
use Rattle.standing.specs.Choose.{choose}

pub none_of_none : choose 0 0 ≡ 1
unfolding choose
none_of_none = refl

pub sum_of_two : (c i : ℕ) → choose (c + 1) (i + 1) ≡ choose c i + choose c (i + 1)
unfolding choose
sum_of_two c i = simp add-one

pub grows : (c i : ℕ) → choose c i ≤ choose (c + 1) i
unfolding choose
grows c zero = omega arith
grows c (suc i) = simp add-one (omega arith)

pub none_from_fewer : (c i : ℕ) → c < i → choose c i ≡ 0
unfolding choose
none_from_fewer c zero h = absurd (not-suc-le-zero h)
none_from_fewer zero (suc i) h = refl
none_from_fewer (suc c) (suc i) h = grind (arith, none_from_fewer c i (omega arith), none_from_fewer c (suc i) (omega arith))

-- where there is a choice, there are enough to choose from
pub enough : (c i : ℕ) → 0 < choose c i → i ≤ c
enough c i h = grind (arith, none_from_fewer)

neighbours : (c i : ℕ) → choose c i + choose c (suc i) ≤ 2 ^ c
unfolding choose
neighbours zero zero = omega arith
neighbours zero (suc i) = omega arith
neighbours (suc c) zero = omega (arith, neighbours c zero)
neighbours (suc c) (suc i) = omega (arith, neighbours c i, neighbours c (suc i))

pub neighbours_fit : (c i : ℕ) → c < 64 → choose c i + choose c (i + 1) < 2 ^ 64
neighbours_fit c i h = grind (arith, pow_mono, neighbours)

-- a number that fits i wagons below c + 1, and is too large for i wagons below c: there is a wagon, which stands at c
pub some_wagon : (c i x : ℕ) → x < choose (c + 1) i → choose c i ≤ x → 1 ≤ i
unfolding choose
some_wagon c zero x h k = omega arith
some_wagon c (suc i) x h k = omega arith

-- and what is left of the number fits the others
pub rest_fits : (c i x : ℕ) → 1 ≤ i → x < choose (c + 1) i → choose c i ≤ x → x - choose c i < choose c (i - 1)
rest_fits c i x one h k = grind (arith, sum_of_two)

-- below section 0 there is no wagon, and nothing is left
pub nothing_left : (i x : ℕ) → x < choose 0 i → (i ≡ 0) × (x ≡ 0)
unfolding choose
nothing_left zero x h = grind arith
nothing_left (suc i) x h = grind arith
