-- One turn of the loop that links the branches, from the highest section down.
use Rattle.std.proofs.Common.{◌≡◌, ℕ, ◌-◌, ◌<◌, ◌≤◌, List, length, get_or, set, sym, ap, ◌∙◌, ⊎_elim, arith}
use Rattle.std.proofs.lemmas.List.{get_or-set_same, get_or-set_other}
use Rattle.std.proofs.lemmas.Bool.{cases_eq}
use Rattle.motion.specs.Tree.{Tree, Branch, Sisters}

-- the links once the sections from k on are linked
pub record Linked (k n : ℕ) (inner first next : List ℕ) : Type 0 where
  pub first_lowest : (u c : ℕ) → k ≤ c → Branch n inner u c → (0 < get_or first u 0) × (get_or first u 0 ≤ c)
  pub first_branch : (u : ℕ) → 0 < get_or first u 0 → (k ≤ get_or first u 0) × (get_or first u 0 < n) × (get_or inner (get_or first u 0) 0 ≡ u)
  pub next_lowest : (b c : ℕ) → k ≤ b → Sisters n inner b c → (0 < get_or next b 0) × (get_or next b 0 ≤ c)
  pub next_branch : (b : ℕ) → 0 < get_or next b 0
      → (0 < b) × (k ≤ b) × (b < get_or next b 0) × (get_or next b 0 < n) × (get_or inner (get_or next b 0) 0 ≡ get_or inner b 0)

pub linked_none : (n : ℕ) (inner first next : List ℕ) → ((u : ℕ) → get_or first u 0 ≡ 0) → ((u : ℕ) → get_or next u 0 ≡ 0) → Linked n n inner first next
linked_none n inner first next f g = record {
  first_lowest = λ u c l b. absurd (omega (arith, b.within));
  first_branch = λ u p. absurd (omega (arith, f u));
  next_lowest = λ b c l s. absurd (omega (arith, s.within, s.higher));
  next_branch = λ b p. absurd (omega (arith, g b));
}

module _ (k n : ℕ) (inner first next : List ℕ) (tree : Tree n inner) (high : 1 < k) (fits : k ≤ n) (longf : n ≤ length first) (longn : n ≤ length next) (was : Linked k n inner first next) where
  abbrev s : ℕ
  s = k - 1

  abbrev p : ℕ
  p = get_or inner s 0

  low : p < s
  low = tree.lower s (omega arith) (omega arith)

  first_p : get_or (set first p s) p 0 ≡ s
  first_p = get_or-set_same first p s 0 (omega (arith, low))

  next_s : get_or (set next s (get_or first p 0)) s 0 ≡ get_or first p 0
  next_s = get_or-set_same next s (get_or first p 0) 0 (omega arith)

  first_lowest : (u c : ℕ) → s ≤ c → Branch n inner u c → (0 < get_or (set first p s) u 0) × (get_or (set first p s) u 0 ≤ c)
  first_lowest u c l b =
      ⊎_elim
      (λ (e : u ≡ p).
      let v : get_or (set first p s) u 0 ≡ s = ap (λ x. get_or (set first p s) x 0) e ∙ first_p in
      (omega arith, omega arith))
      (λ (ne : u ≡ p → ⊥).
      let v : get_or (set first p s) u 0 ≡ get_or first u 0 = get_or-set_other first p u s 0 ne in
      ⊎_elim
      (λ (e : c ≡ s). absurd (ne (sym b.hangs ∙ ap (λ x. get_or inner x 0) e)))
      (λ (o : c ≡ s → ⊥). let old = was.first_lowest u c (omega arith) b in (omega arith, omega arith))
      (cases_eq c s))
      (cases_eq u p)

  first_branch : (u : ℕ) → 0 < get_or (set first p s) u 0 → (s ≤ get_or (set first p s) u 0) × (get_or (set first p s) u 0 < n) × (get_or inner (get_or (set first p s) u 0) 0 ≡ u)
  first_branch u z =
      ⊎_elim
      (λ (e : u ≡ p).
      let v : get_or (set first p s) u 0 ≡ s = ap (λ x. get_or (set first p s) x 0) e ∙ first_p in
      (omega arith, omega arith, ap (λ x. get_or inner x 0) v ∙ sym e))
      (λ (ne : u ≡ p → ⊥).
      let v : get_or (set first p s) u 0 ≡ get_or first u 0 = get_or-set_other first p u s 0 ne in
      let old = was.first_branch u (omega arith) in
      (omega arith, omega arith, ap (λ x. get_or inner x 0) v ∙ old.2))
      (cases_eq u p)

  next_lowest : (b c : ℕ) → s ≤ b → Sisters n inner b c → (0 < get_or (set next s (get_or first p 0)) b 0) × (get_or (set next s (get_or first p 0)) b 0 ≤ c)
  next_lowest b c l two =
      ⊎_elim
      (λ (e : b ≡ s).
      let v : get_or (set next s (get_or first p 0)) b 0 ≡ get_or first p 0 = ap (λ x. get_or (set next s (get_or first p 0)) x 0) e ∙ next_s in
      let up = two.higher in
      let old = was.first_lowest p c (omega arith)
      (record { outer = omega arith; within = two.within; hangs = sym two.together ∙ ap (λ x. get_or inner x 0) e }) in
      (omega arith, omega arith))
      (λ (ne : b ≡ s → ⊥).
      let v : get_or (set next s (get_or first p 0)) b 0 ≡ get_or next b 0 = get_or-set_other next s b (get_or first p 0) 0 ne in
      let old = was.next_lowest b c (omega arith) two in
      (omega arith, omega arith))
      (cases_eq b s)

  next_branch : (b : ℕ) → 0 < get_or (set next s (get_or first p 0)) b 0
      → (0 < b) × (s ≤ b) × (b < get_or (set next s (get_or first p 0)) b 0) × (get_or (set next s (get_or first p 0)) b 0 < n)
      × (get_or inner (get_or (set next s (get_or first p 0)) b 0) 0 ≡ get_or inner b 0)
  next_branch b z =
      ⊎_elim
      (λ (e : b ≡ s).
      let v : get_or (set next s (get_or first p 0)) b 0 ≡ get_or first p 0 = ap (λ x. get_or (set next s (get_or first p 0)) x 0) e ∙ next_s in
      let old = was.first_branch p (omega arith) in
      (omega arith, omega arith, omega arith, omega arith, ap (λ x. get_or inner x 0) v ∙ old.2 ∙ ap (λ x. get_or inner x 0) (sym e)))
      (λ (ne : b ≡ s → ⊥).
      let v : get_or (set next s (get_or first p 0)) b 0 ≡ get_or next b 0 = get_or-set_other next s b (get_or first p 0) 0 ne in
      let old = was.next_branch b (omega arith) in
      (old.0, omega arith, omega arith, omega arith, ap (λ x. get_or inner x 0) v ∙ old.4))
      (cases_eq b s)

  -- the section s, just below k, becomes the lowest branch of p so far
  pub linked_more : Linked s n inner (set first p s) (set next s (get_or first p 0))
  linked_more = record { first_lowest = first_lowest; first_branch = first_branch; next_lowest = next_lowest; next_branch = next_branch }
