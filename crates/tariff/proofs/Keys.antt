-- The key of a move, that is, the section that it crosses and its way; lists counted by keys.
use Rattle.std.proofs.Common.{◌≡◌, ℕ, ◌<◌, ◌≤◌, Bool, true, cond, eqb, List, [], ◌∷◌, count_by, refl, ap, ⊎_elim, arith}
use Rattle.std.proofs.lemmas.Bool.Decides.{nat_tests}
use Rattle.std.proofs.lemmas.Bool.{eq-eqb, ne_eqb, lt-ltb, and_from}
use Rattle.motion.specs.declared.moves.Move.{Move}
use Rattle.motion.specs.declared.ways.Way.{Way}
use Rattle.motion.specs.declared.ways.Way.TheVariants.{Inward, Outward}
use Rattle.motion.specs.Tree.{Tree, Branch}
use Rattle.motion.specs.Moves.{crosses_inward, crosses_outward, one_if, Legal, Leads}
use Rattle.tariff.specs.Charges.{higher, way_of}

abbrev pub crosses : Way → ℕ → Move → Bool
crosses Inward s m = crosses_inward s m
crosses Outward s m = crosses_outward s m

-- how many moves of a list have the key
abbrev pub count : Way → ℕ → List Move → ℕ
count w s ms = count_by (crosses w s) ms

-- no key comes oftener in ms than in ns
abbrev pub Fewer : List Move → List Move → Type 0
Fewer ms ns = (w : Way) (s : ℕ) → count w s ms ≤ count w s ns

-- each move has a key
pub data Keyed : List Move → Type 0 where
  none : Keyed []
  one : {m : Move} {ms : List Move} (w : Way) (s : ℕ) → crosses w s m ≡ true → Keyed ms → Keyed (m ∷ ms)

-- 1 where the two keys are one, else 0
abbrev pub hit : Way → ℕ → Way → ℕ → ℕ
hit Inward t Inward s = cond (eqb t s) 1 0
hit Inward t Outward s = 0
hit Outward t Inward s = 0
hit Outward t Outward s = cond (eqb t s) 1 0

module _ (m : Move) (s : ℕ) where
  inward_is : crosses_inward s m ≡ true → (m.from ≡ s) × (m.to < m.from) × (way_of m ≡ Inward)
  inward_is e = (grind (arith, nat_tests), grind (arith, nat_tests), grind (arith, nat_tests))

  outward_is : crosses_outward s m ≡ true → (m.to ≡ s) × (m.from < m.to) × (way_of m ≡ Outward)
  outward_is e = (grind (arith, nat_tests), grind (arith, nat_tests), grind (arith, nat_tests))

  module _ (t : ℕ) where
    inward_hits : crosses_inward s m ≡ true → (one_if (crosses_inward t m) ≡ hit Inward t Inward s) × (one_if (crosses_outward t m) ≡ 0)
    inward_hits e = (grind (arith, nat_tests), grind (arith, nat_tests))

    outward_hits : crosses_outward s m ≡ true → (one_if (crosses_inward t m) ≡ 0) × (one_if (crosses_outward t m) ≡ hit Outward t Outward s)
    outward_hits e = (grind (arith, nat_tests), grind (arith, nat_tests))

pub key_is : (w : Way) (s : ℕ) (m : Move) → crosses w s m ≡ true → (higher m ≡ s) × (way_of m ≡ w)
key_is Inward s m e = let is = inward_is m s e in (omega (arith, is.0, is.1), is.2)
key_is Outward s m e = let is = outward_is m s e in (omega (arith, is.0, is.1), is.2)

pub key_hits : (w : Way) (s : ℕ) (m : Move) → crosses w s m ≡ true → (v : Way) (t : ℕ) → one_if (crosses v t m) ≡ hit v t w s
key_hits Inward s m e Inward t = (inward_hits m s t e).0
key_hits Inward s m e Outward t = (inward_hits m s t e).1
key_hits Outward s m e Inward t = (outward_hits m s t e).0
key_hits Outward s m e Outward t = (outward_hits m s t e).1

pub hit_self : (w : Way) (s : ℕ) → hit w s w s ≡ 1
hit_self Inward s = ap (λ b. cond b 1 0) (eq-eqb s s refl)
hit_self Outward s = ap (λ b. cond b 1 0) (eq-eqb s s refl)

pub hit_other : (v : Way) (t : ℕ) (w : Way) (s : ℕ) → (t ≡ s → ⊥) → hit v t w s ≡ 0
hit_other Inward t Inward s ne = ap (λ b. cond b 1 0) (ne_eqb t s ne)
hit_other Inward t Outward s ne = refl
hit_other Outward t Inward s ne = refl
hit_other Outward t Outward s ne = ap (λ b. cond b 1 0) (ne_eqb t s ne)

-- every legal move has a key
legal_key : (n : ℕ) (inner wagons : List ℕ) (m : Move) → Tree n inner → Legal n inner wagons m → (w : Way) × ((s : ℕ) × (crosses w s m ≡ true))
legal_key n inner wagons m tree legal =
    ⊎_elim
    (λ (b : Branch n inner m.from m.to).
    let l = tree.lower m.to b.outer b.within in
    (Outward, (m.to, and_from _ _ (eq-eqb m.to m.to refl) (lt-ltb m.from m.to (omega (arith, b.hangs))))))
    (λ (b : Branch n inner m.to m.from).
    let l = tree.lower m.from b.outer b.within in
    (Inward, (m.from, and_from _ _ (eq-eqb m.from m.from refl) (lt-ltb m.to m.from (omega (arith, b.hangs))))))
    legal.neighbours

pub leads_keyed : (n : ℕ) (inner : List ℕ) {wagons end : List ℕ} {ms : List Move} → Tree n inner → Leads n inner wagons ms end → Keyed ms
leads_keyed n inner tree Leads.stays = Keyed.none
leads_keyed n inner {wagons} tree (Leads.goes {m = m} legal rest) =
    let k = legal_key n inner wagons m tree legal in Keyed.one k.0 k.1.0 k.1.1 (leads_keyed n inner tree rest)
