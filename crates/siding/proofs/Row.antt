-- What the stored demands say of the branches of a section.
use Rattle.std.proofs.Common.{◌≡◌, ℕ, ◌<◌, ◌≤◌, true, false, not, eqb, get_or, ℤ, pos, nat_abs, IsTrue, sym, ap, ◌∙◌, ⊎_elim, arith, w16, of_z}
use Rattle.std.proofs.lemmas.Bool.{cases_eq, eq-eqb, ne_eqb}
use Rattle.std.proofs.lemmas.Int.{ints}
use Rattle.motion.specs.Due.{Asked, Asks}
use Rattle.motion.specs.declared.ways.Way.{Way}
use Rattle.siding.specs.declared.siding.Siding.{Siding}

-- a branch asks if its stored demand does
pub asked_asks : (x : Siding) (way : Way) (k : ℕ) → k < x.track.sections → Asked way (get_or x.demand k (pos 0)) → Asks way x.track.sections x.track.inner x.wagons.in_section x.berths.in_section k
asked_asks x way k l a = rw (x.demands k l) at a

pub asks_asked : (x : Siding) (way : Way) (k : ℕ) → k < x.track.sections → Asks way x.track.sections x.track.inner x.wagons.in_section x.berths.in_section k → Asked way (get_or x.demand k (pos 0))
asks_asked x way k l a = rw (x.demands k l) a

-- whether a stored demand is other than 0
pub stored_wants : (z : ℤ) → nat_abs z ≤ 512 → (IsTrue (not (eqb (of_z w16 z) 0)) → z ≡ pos 0 → ⊥) × ((z ≡ pos 0 → ⊥) → IsTrue (not (eqb (of_z w16 z) 0)))
stored_wants z small =
    ⊎_elim
    (λ (e : of_z w16 z ≡ 0).
    let zero : z ≡ pos 0 = omega (arith, ints) in
    ((λ yes _. let no = eq-eqb (of_z w16 z) 0 e in false_not_true (sym (ap not no) ∙ yes)), (λ wants. absurd (wants zero))))
    (λ (ne : of_z w16 z ≡ 0 → ⊥).
    ((λ _ zero. let same : of_z w16 z ≡ 0 = omega (arith, ints) in ne same), (λ _. ap not (ne_eqb (of_z w16 z) 0 ne))))
    (cases_eq (of_z w16 z) 0)
  where
    false_not_true : false ≡ true → ⊥
    false_not_true e = cc
