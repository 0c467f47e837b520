-- A charge joined many times.
use Rattle.std.proofs.Common.{◌≡◌, ℕ, zero, suc, ◌+◌, ◌/◌, ◌%◌, cond, sym, refl, ap, ◌∙◌, ⊎_elim, add-one, arith}
use Rattle.std.proofs.lemmas.Bool.{cases_eq, eq-eqb, ne_eqb}
use Rattle.tariff.specs.Rule.{Rule, Laws}
use Rattle.tariff.specs.Charges.{times, joined_if_odd}

module _ {S : Type 0} (rule : Rule S) where
  abbrev plus : S → S → S
  plus = rule.plus

  pub times_none : (a : S) → times rule a 0 ≡ rule.none
  unfolding times
  times_none a = refl

  times_suc : (a : S) (k : ℕ) → times rule a (suc k) ≡ plus a (times rule a k)
  unfolding times
  times_suc a k = refl

  pub times_more : (a : S) (k : ℕ) → times rule a (k + 1) ≡ plus a (times rule a k)
  times_more a k = ap (times rule a) (add-one k) ∙ times_suc a k

  module _ (laws : Laws rule) where
    right_none : (a : S) → plus a rule.none ≡ a
    right_none a = laws.comm a rule.none ∙ laws.unit a

    -- two of a kind
    pub times_double : (a : S) (k : ℕ) → times rule (plus a a) k ≡ times rule a (k + k)
    times_double a zero = times_none (plus a a) ∙ sym (times_none a)
    times_double a (suc k) =
        let ih = times_double a k in
        let two : suc k + suc k ≡ suc (suc (k + k)) = omega arith in
        times_suc (plus a a) k
        ∙ ap (plus (plus a a)) ih
        ∙ laws.assoc a a (times rule a (k + k))
        ∙ sym (ap (times rule a) two ∙ times_suc a (suc (k + k)) ∙ ap (plus a) (times_suc a (k + k)))

    -- one turn of the doubling
    pub times_turn : (sum a : S) (k : ℕ) → plus (joined_if_odd rule sum a k) (times rule (plus a a) (k / 2)) ≡ plus sum (times rule a k)
    times_turn sum a k =
        ⊎_elim
        (λ (e : k % 2 ≡ 1).
        let odd : k ≡ k / 2 + k / 2 + 1 = omega arith in
        ap (λ b. plus (cond b (plus sum a) sum) (times rule (plus a a) (k / 2))) (eq-eqb (k % 2) 1 e)
        ∙ laws.assoc sum a _
        ∙ ap (λ x. plus sum (plus a x)) (times_double a (k / 2))
        ∙ ap (plus sum) (sym (times_more a (k / 2 + k / 2)))
        ∙ ap (λ i. plus sum (times rule a i)) (sym odd))
        (λ (ne : k % 2 ≡ 1 → ⊥).
        let even : k ≡ k / 2 + k / 2 = omega arith in
        ap (λ b. plus (cond b (plus sum a) sum) (times rule (plus a a) (k / 2))) (ne_eqb (k % 2) 1 ne)
        ∙ ap (plus sum) (times_double a (k / 2))
        ∙ ap (λ i. plus sum (times rule a i)) (sym even))
        (cases_eq (k % 2) 1)

    pub times_first : (a : S) (k : ℕ) → plus rule.none (times rule a k) ≡ times rule a k
    times_first a k = laws.unit (times rule a k)

    pub times_last : (sum a : S) → plus sum (times rule a 0) ≡ sum
    times_last sum a = ap (plus sum) (times_none a) ∙ right_none sum

    pub times_next :
        (sum a next doubled end : S) (k : ℕ) → next ≡ joined_if_odd rule sum a k → doubled ≡ plus a a → plus sum (times rule a k) ≡ end
        → plus next (times rule doubled (k / 2)) ≡ end
    times_next sum a next doubled end k en ed so =
        ap (λ x. plus x (times rule doubled (k / 2))) en ∙ ap (λ x. plus (joined_if_odd rule sum a k) (times rule x (k / 2))) ed ∙ times_turn sum a k ∙ so
