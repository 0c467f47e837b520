-- A list in which no key comes oftener costs no more, under every lawful tariff.
use Rattle.std.proofs.Common.{◌≡◌, ℕ, ◌+◌, ◌≤◌, Bool, true, false, cond, List, [], ◌∷◌, length, sym, refl, ap, ◌∙◌, arith}
use Rattle.std.proofs.lemmas.List.Sums.{sum_by-cons}
use Rattle.motion.specs.declared.moves.Move.{Move}
use Rattle.motion.specs.declared.ways.Way.{Way}
use Rattle.motion.specs.Moves.{one_if}
use Rattle.tariff.specs.Rule.{Rule, Laws}
use Rattle.tariff.specs.Charges.{way_of, charge_of, joined_from, charged}
use Rattle.tariff.proofs.Keys.{crosses, count, Fewer, Keyed, hit, key_is, key_hits, hit_self}

count_cons : (w : Way) (s : ℕ) (m : Move) (ms : List Move) → count w s (m ∷ ms) ≡ one_if (crosses w s m) + count w s ms
count_cons w s m ms = sum_by-cons (λ (x : Move). cond (crosses w s x) 1 0) m ms

module _ {S : Type 0} (rule : Rule S) (laws : Laws rule) where
  abbrev plus : S → S → S
  plus = rule.plus

  -- what is joined to a sum is joined to nothing first
  pub joined_on : (a : S) (ms : List Move) → joined_from rule a ms ≡ plus a (charged rule ms)
  joined_on a [] = sym (laws.comm a rule.none ∙ laws.unit a)
  joined_on a (m ∷ ms) =
      joined_on (plus a (charge_of rule m)) ms
      ∙ laws.assoc a (charge_of rule m) (charged rule ms)
      ∙ ap (plus a) (sym (joined_on (plus rule.none (charge_of rule m)) ms ∙ ap (λ x. plus x (charged rule ms)) (laws.unit (charge_of rule m))))

  pub charged_cons : (m : Move) (ms : List Move) → charged rule (m ∷ ms) ≡ plus (charge_of rule m) (charged rule ms)
  charged_cons m ms = joined_on (plus rule.none (charge_of rule m)) ms ∙ ap (λ x. plus x (charged rule ms)) (laws.unit (charge_of rule m))

  swapped : (a b c : S) → plus a (plus b c) ≡ plus b (plus a c)
  swapped a b c = sym (laws.assoc a b c) ∙ ap (λ x. plus x c) (laws.comm a b) ∙ laws.assoc b a c

  pub charge_by_key : (w : Way) (s : ℕ) (m : Move) → crosses w s m ≡ true → charge_of rule m ≡ rule.cost s w
  charge_by_key w s m e = let k = key_is w s m e in ap (λ x. rule.cost x (way_of m)) k.0 ∙ ap (rule.cost s) k.1

  -- a move with the key stands in ns: what is left without it
  abbrev Pulled : Way → ℕ → List Move → Type 0
  Pulled w s ns =
      (rest : List Move) × (charged rule ns ≡ plus (rule.cost s w) (charged rule rest)) × ((v : Way) (t : ℕ) → count v t ns ≡ hit v t w s + count v t rest)
      × (length ns ≡ length rest + 1)

  pull : (w : Way) (s : ℕ) (ns : List Move) → 1 ≤ count w s ns → Pulled w s ns
  pull w s [] h = absurd (omega arith)
  pull w s (n ∷ ns) h = go (crosses w s n) refl (λ k. pull w s ns k)
    where
      go : (b : Bool) → crosses w s n ≡ b → (1 ≤ count w s ns → Pulled w s ns) → Pulled w s (n ∷ ns)
      go true e later = (
        ns,
        charged_cons n ns ∙ ap (λ x. plus x (charged rule ns)) (charge_by_key w s n e),
        λ v t.
            let c = count_cons v t n ns in let k = key_hits w s n e v t in omega arith,
        omega arith,
      )
      go false e later =
          let none : one_if (crosses w s n) ≡ 0 = ap one_if e in
          let c = count_cons w s n ns in
          let p = later (omega arith) in (
            n ∷ p.0,
            charged_cons n ns ∙ ap (plus (charge_of rule n)) p.1 ∙ swapped _ _ _ ∙ ap (plus (rule.cost s w)) (sym (charged_cons n p.0)),
            λ v t.
                let a = count_cons v t n ns in let b = count_cons v t n p.0 in let d = p.2 v t in omega arith,
            omega (arith, p.3),
          )

  -- the key of the first move comes in ns too
  first_comes : (m : Move) (ms ns : List Move) (w : Way) (s : ℕ) → crosses w s m ≡ true → Fewer (m ∷ ms) ns → 1 ≤ count w s ns
  first_comes m ms ns w s e h =
      let c = count_cons w s m ms in
      let k = key_hits w s m e w s in
      let one = hit_self w s in
      let l = h w s in
      omega arith

  -- what ns comes to is what ms comes to, and what is left of ns
  abbrev Left : List Move → List Move → Type 0
  Left ms ns = (rest : List Move) × (charged rule ns ≡ plus (charged rule ms) (charged rule rest)) × (length ns ≡ length ms + length rest)

  under : (ms ns : List Move) → Keyed ms → Fewer ms ns → Left ms ns
  under [] ns Keyed.none h = (ns, sym (laws.unit (charged rule ns)), omega arith)
  under (m ∷ ms) ns (Keyed.one w s e rest) h =
      let p = pull w s ns (first_comes m ms ns w s e h) in
      let q = under ms p.0 rest (λ v t.
      let a = count_cons v t m ms in let k = key_hits w s m e v t in let d = p.2 v t in let l = h v t in omega arith) in (
        q.0,
        p.1 ∙ ap (plus (rule.cost s w)) q.1 ∙ sym (laws.assoc _ _ _)
            ∙ ap (λ x. plus x (charged rule q.0)) (sym (charged_cons m ms ∙ ap (λ x. plus x (charged rule ms)) (charge_by_key w s m e))),
        omega (arith, p.3, q.2),
      )

  pub least : (ms ns : List Move) → Keyed ms → Fewer ms ns → rule.within (charged rule ms) (charged rule ns) ≡ true
  least ms ns keyed h = let u = under ms ns keyed h in rw u.1 (laws.grows (charged rule ms) (charged rule u.0))

  nothing_left : (a : S) (rest : List Move) → length rest ≡ 0 → plus a (charged rule rest) ≡ a
  nothing_left a [] e = laws.comm a rule.none ∙ laws.unit a
  nothing_left a (m ∷ ms) e = absurd (omega arith)

  -- lists with the same keys, each as often, come to the same
  pub charged_same : (ms ns : List Move) → Keyed ms → Fewer ms ns → length ns ≡ length ms → charged rule ns ≡ charged rule ms
  charged_same ms ns keyed h e = let u = under ms ns keyed h in u.1 ∙ nothing_left (charged rule ms) u.0 (omega (arith, u.2))
