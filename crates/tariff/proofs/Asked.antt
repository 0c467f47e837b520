-- The moves due come to the same as the crossings that the demands ask for, section by section.
use Rattle.std.proofs.Common.{◌≡◌, ℕ, zero, suc, ◌+◌, ◌-◌, ◌*◌, ◌<◌, ◌≤◌, true, List, [], ◌∷◌, ◌++◌, length, replicate, ℤ, pos, negsuc, ◌-ℤ◌, nat_abs, sym, refl, ap, ◌∙◌, ⊎_elim, arith}
use Rattle.std.proofs.lemmas.List.{length-append, length-replicate}
use Rattle.std.proofs.lemmas.Int.{ints}
use Rattle.std.proofs.lemmas.List.Folds.{sum_by-replicate}
use Rattle.std.proofs.lemmas.List.Sums.{sum_by-append}
use Rattle.std.proofs.lemmas.Bool.{cases_eq, eq-eqb, lt-ltb, and_from}
use Rattle.motion.specs.declared.moves.Move.{Move}
use Rattle.motion.specs.declared.ways.Way.{Way}
use Rattle.motion.specs.declared.ways.Way.TheVariants.{Inward, Outward}
use Rattle.motion.specs.Due.{asked_for}
use Rattle.motion.specs.Tree.{sum_to, under}
use Rattle.motion.specs.Demand.{demand_of, figure_of}
use Rattle.motion.specs.Moves.{one_if}
use Rattle.motion.specs.Stepping.{Stepping, Even}
use Rattle.motion.proofs.Sums.{sum_same}
use Rattle.motion.proofs.StepsEnd.{stepping_fills}
use Rattle.motion.proofs.Sparing.{filling_crosses, due_fill}
use Rattle.tariff.specs.Rule.{Rule, Laws}
use Rattle.tariff.specs.Charges.{charge_of, charged, times, by_sections}
use Rattle.tariff.proofs.Keys.{crosses, count, Fewer, Keyed, hit, key_hits, hit_self, hit_other}
use Rattle.tariff.proofs.Leasts.{charged_cons, charge_by_key, charged_same}

-- a move with this key
abbrev keyed_by : Way → ℕ → Move
keyed_by Inward s = record { from = s; to = 0 }
keyed_by Outward s = record { from = 0; to = s }

has_key : (w : Way) (k : ℕ) → crosses w (suc k) (keyed_by w (suc k)) ≡ true
has_key Inward k = and_from _ _ (eq-eqb (suc k) (suc k) refl) (lt-ltb 0 (suc k) (omega arith))
has_key Outward k = and_from _ _ (eq-eqb (suc k) (suc k) refl) (lt-ltb 0 (suc k) (omega arith))

keyed_append : {ms ns : List Move} → Keyed ms → Keyed ns → Keyed (ms ++ ns)
keyed_append Keyed.none b = b
keyed_append (Keyed.one w s e rest) b = Keyed.one w s e (keyed_append rest b)

keyed_many : (w : Way) (k c : ℕ) → Keyed (replicate c (keyed_by w (suc k)))
keyed_many w k zero = Keyed.none
keyed_many w k (suc c) = Keyed.one w (suc k) (has_key w k) (keyed_many w k c)

count_append : (v : Way) (t : ℕ) (ms ns : List Move) → count v t (ms ++ ns) ≡ count v t ms + count v t ns
count_append v t ms ns = sum_by-append (λ (m : Move). one_if (crosses v t m)) ms ns

count_many : (w v : Way) (k t c : ℕ) → count v t (replicate c (keyed_by w (suc k))) ≡ c * hit v t w (suc k)
count_many w v k t c =
    sum_by-replicate (λ (m : Move). one_if (crosses v t m)) c (keyed_by w (suc k))
    ∙ ap (λ x. c * x) (key_hits w (suc k) (keyed_by w (suc k)) (has_key w k) v t)

module _ (asked : Way → ℕ → ℕ) where
  -- the moves with just the keys that are asked for: at a section, those of each way, and up to it
  abbrev at : Way → ℕ → List Move
  at w k = replicate (asked w (suc k)) (keyed_by w (suc k))

  abbrev here : ℕ → List Move
  here k = at Outward k ++ at Inward k

  list : ℕ → List Move
  list zero = []
  list (suc k) = list k ++ here k

  keyed_asked : (k : ℕ) → Keyed (list k)
  unfolding list
  keyed_asked zero = Keyed.none
  keyed_asked (suc k) = keyed_append (keyed_asked k) (keyed_append (keyed_many Outward k (asked Outward (suc k))) (keyed_many Inward k (asked Inward (suc k))))

  length_asked : (k : ℕ) → length (list k) ≡ sum_to (λ i. asked Outward (i + 1) + asked Inward (i + 1)) k
  unfolding list sum_to
  length_asked zero = refl
  length_asked (suc k) =
      let ih = length_asked k in
      let so : asked Outward (suc k) ≡ asked Outward (k + 1) = ap (asked Outward) (omega arith) in
      let si : asked Inward (suc k) ≡ asked Inward (k + 1) = ap (asked Inward) (omega arith) in
      omega (arith, length-append (list k) (here k), length-append (at Outward k) (at Inward k), length-replicate {A = Move})

  count_here : (v : Way) (t k : ℕ) → count v t (here k) ≡ asked Outward (suc k) * hit v t Outward (suc k) + asked Inward (suc k) * hit v t Inward (suc k)
  count_here v t k =
      let o = count_many Outward v k t (asked Outward (suc k)) in
      let i = count_many Inward v k t (asked Inward (suc k)) in
      omega (arith, count_append v t (at Outward k) (at Inward k))

  here_same : (v : Way) (k : ℕ) → count v (suc k) (here k) ≡ asked v (suc k)
  here_same Outward k = let c = rw (hit_self Outward (suc k)) at (count_here Outward (suc k) k) in omega arith
  here_same Inward k = let c = rw (hit_self Inward (suc k)) at (count_here Inward (suc k) k) in omega arith

  here_other : (v : Way) (t k : ℕ) → (t ≡ suc k → ⊥) → count v t (here k) ≡ 0
  here_other v t k ne = let c = rw (hit_other v t Outward (suc k) ne, hit_other v t Inward (suc k) ne) at (count_here v t k) in omega arith

  -- no key comes oftener than asked, and none from past the sections so far
  count_asked : (v : Way) (t k : ℕ) → (count v t (list k) ≤ asked v t) × (k < t → count v t (list k) ≡ 0)
  unfolding list
  count_asked v t zero = (omega arith, λ l. refl)
  count_asked v t (suc k) =
      let ih = count_asked v t k in
      let a = count_append v t (list k) (here k) in
      ⊎_elim
      (λ (e : t ≡ suc k).
      let z = ih.1 (omega arith) in
      let same : count v t (here k) ≡ asked v t = ap (λ x. count v x (here k)) e ∙ here_same v k ∙ ap (asked v) (sym e) in
      (omega arith, λ l. absurd (omega arith)))
      (λ (ne : t ≡ suc k → ⊥).
      let none = here_other v t k ne in
      let le = ih.0 in
      (omega arith, λ l. let z = ih.1 (omega arith) in omega arith))
      (cases_eq t (suc k))

module _ {S : Type 0} (rule : Rule S) (laws : Laws rule) where
  charged_append : (ms ns : List Move) → charged rule (ms ++ ns) ≡ rule.plus (charged rule ms) (charged rule ns)
  charged_append [] ns = sym (laws.unit (charged rule ns))
  charged_append (m ∷ ms) ns =
      charged_cons rule laws m (ms ++ ns)
      ∙ ap (rule.plus (charge_of rule m)) (charged_append ms ns)
      ∙ sym (laws.assoc _ _ _)
      ∙ ap (λ x. rule.plus x (charged rule ns)) (sym (charged_cons rule laws m ms))

  charged_many : (w : Way) (k c : ℕ) → charged rule (replicate c (keyed_by w (suc k))) ≡ times rule (rule.cost (suc k) w) c
  unfolding times
  charged_many w k zero = refl
  charged_many w k (suc c) =
      charged_cons rule laws (keyed_by w (suc k)) (replicate c (keyed_by w (suc k)))
      ∙ ap (λ x. rule.plus x (charged rule (replicate c (keyed_by w (suc k))))) (charge_by_key rule laws w (suc k) (keyed_by w (suc k)) (has_key w k))
      ∙ ap (rule.plus (rule.cost (suc k) w)) (charged_many w k c)

  charged_asked : (asked : Way → ℕ → ℕ) (k : ℕ) → charged rule (list asked k) ≡ by_sections rule asked k
  unfolding list by_sections
  charged_asked asked zero = refl
  charged_asked asked (suc k) =
      let o = charged_many Outward k (asked Outward (suc k)) in
      let i = charged_many Inward k (asked Inward (suc k)) in
      charged_append (list asked k) (here asked k)
      ∙ cc (charged_asked asked k, charged_append (at asked Outward k) (at asked Inward k))

-- what a demand asks for, when it is so many berths less so many wagons
asked_outward : (demand : ℤ) (berths wagons : ℕ) → demand ≡ pos berths -ℤ pos wagons → asked_for Outward demand ≡ berths - wagons
asked_outward (pos k) berths wagons e = omega (arith, ints)
asked_outward (negsuc k) berths wagons e = omega (arith, ints)

asked_inward : (demand : ℤ) (berths wagons : ℕ) → demand ≡ pos berths -ℤ pos wagons → asked_for Inward demand ≡ wagons - berths
asked_inward (pos k) berths wagons e = omega (arith, ints)
asked_inward (negsuc k) berths wagons e = omega (arith, ints)

asked_both : (demand : ℤ) → nat_abs demand ≡ asked_for Outward demand + asked_for Inward demand
asked_both (pos k) = omega (arith, ints)
asked_both (negsuc k) = omega (arith, ints)

module _ (n : ℕ) (inner wagons berths : List ℕ) where
  -- what the demands ask for
  abbrev pub asked_of : Way → ℕ → ℕ
  asked_of w s = asked_for w (demand_of n inner wagons berths s)

  module _ (even : Even n inner wagons berths) (ms : List Move) (end : List ℕ) (due : Stepping n inner berths wagons ms end) where
    asked_fewer : Fewer (list asked_of (n - 1)) ms
    asked_fewer Outward s =
        let most = (count_asked asked_of Outward s (n - 1)).0 in
        let cross = filling_crosses n inner wagons berths even ms (due_fill n inner wagons berths even ms end due) s in
        omega (arith, asked_outward (demand_of n inner wagons berths s) (under n inner berths s) (under n inner wagons s) refl)
    asked_fewer Inward s =
        let most = (count_asked asked_of Inward s (n - 1)).0 in
        let cross = filling_crosses n inner wagons berths even ms (due_fill n inner wagons berths even ms end due) s in
        omega (arith, asked_inward (demand_of n inner wagons berths s) (under n inner berths s) (under n inner wagons s) refl)

    as_many : length ms ≡ length (list asked_of (n - 1))
    unfolding figure_of
    as_many =
        (stepping_fills n inner wagons berths ms end even due).count
        ∙ sum_same (λ k. nat_abs (demand_of n inner wagons berths (k + 1))) (λ k. asked_of Outward (k + 1) + asked_of Inward (k + 1)) (n - 1) (λ k l. asked_both (demand_of n inner wagons berths (k + 1)))
        ∙ sym (length_asked asked_of (n - 1))

    pub sections_come_to_moves : {S : Type 0} (rule : Rule S) → Laws rule → charged rule ms ≡ by_sections rule asked_of (n - 1)
    sections_come_to_moves rule laws =
        charged_same rule laws (list asked_of (n - 1)) ms (keyed_asked asked_of (n - 1)) asked_fewer as_many ∙ charged_asked rule laws asked_of (n - 1)
