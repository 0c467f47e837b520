-- The order in which sections are visited: none comes before itself, and of two sections one comes before the other.
use Rattle.std.proofs.Common.{◌≡◌, ℕ, zero, suc, ◌+◌, ◌<◌, ◌≤◌, ◌≢◌, ◌⊎◌, List, get_or, sym, refl, inl, inr, arith, rules}
use Rattle.std.proofs.lemmas.Bool.{cases_eq, cases_order}
use Rattle.motion.specs.Tree.{Tree, Branch, Below}
use Rattle.motion.specs.Visit.{Before}

-- what lies below a section that lies below s lies below s
pub below_trans : {inner : List ℕ} {s v t : ℕ} → Below inner s v → Below inner v t → Below inner s t
below_trans a Below.itself = a
below_trans a (Below.farther z b) = Below.farther z (below_trans a b)

-- of two sections that one lies below, one lies below the other
chain : {inner : List ℕ} {x y t : ℕ} → Below inner x t → Below inner y t → Below inner x y ⊎ Below inner y x
chain Below.itself b = inr b
chain (Below.farther z a) Below.itself = inl (Below.farther z a)
chain (Below.farther z a) (Below.farther w b) = chain a b

pub branch_below : {n : ℕ} {inner : List ℕ} {p a s : ℕ} → Branch n inner p a → Below inner s p → Below inner s a
branch_below b u = grind (arith, Below.farther)

pub below_branch : {n : ℕ} {inner : List ℕ} {p a s : ℕ} → Branch n inner p a → Below inner s a → s ≢ a → Below inner s p
below_branch b u ne = search rules

-- a section hangs on one section only
pub one_inner : {n : ℕ} {inner : List ℕ} {p u a v : ℕ} → Branch n inner p a → Branch n inner u v → a ≡ v → p ≡ u
one_inner {inner = inner} b c e = cc

-- a branch a of p and a branch c of q that one section lies below: they are the same, or one lies at or below the other's section
data Forks (inner : List ℕ) (p a q c : ℕ) : Type 0 where
  same : a ≡ c → p ≡ q → Forks inner p a q c
  first : Below inner a q → Forks inner p a q c
  second : Below inner c p → Forks inner p a q c

forks : {n : ℕ} {inner : List ℕ} {p a q c t : ℕ} → Branch n inner p a → Branch n inner q c → Below inner a t → Below inner c t → Forks inner p a q c
forks {a = a} {c = c} ba bc ua uc =
    elim (cases_eq a c) [
      | inl e ↦ same e (one_inner ba bc e)
      | inr ne ↦ elim (chain ua uc) [
        | inl ac ↦ first (below_branch bc ac ne)
        | inr ca ↦ second (below_branch ba ca (λ e. ne (sym e)))
      ]
    ]

-- what comes before what comes before t comes before t
pub before_trans : {n : ℕ} {inner : List ℕ} {r s t : ℕ} → Before n inner r s → Before n inner s t → Before n inner r t
before_trans (Before.above b u) (Before.above c v) = Before.above b (below_trans (branch_below c u) v)
before_trans (Before.beside ba bb ab ua ub) (Before.above c v) = Before.beside ba bb ab ua (below_trans (branch_below c ub) v)
before_trans (Before.above b u) (Before.beside ba bb ab ua ub) =
    elim (forks b ba u ua) [
      | same e q ↦ Before.above (rw (sym q) at bb) ub
      | first v ↦ Before.above b (below_trans (branch_below bb v) ub)
      | second v ↦ Before.beside ba bb ab v ub
    ]
before_trans (Before.beside ba bb ab ua ub) (Before.beside bc bd cd uc ud) =
    elim (forks bb bc ub uc) [
      | same e q ↦ Before.beside ba (rw (sym q) at bd) (omega arith) ua ud
      | first v ↦ Before.beside ba bb ab ua (below_trans (branch_below bd v) ud)
      | second v ↦ Before.beside bc bd cd (below_trans (branch_below ba v) ua) ud
    ]

-- any two sections are the same, or one is visited first
pub data Which (n : ℕ) (inner : List ℕ) (s t : ℕ) : Type 0 where
  same : s ≡ t → Which n inner s t
  sooner : Before n inner s t → Which n inner s t
  later : Before n inner t s → Which n inner s t

swapped : {n : ℕ} {inner : List ℕ} {s t : ℕ} → Which n inner s t → Which n inner t s
swapped (Which.same e) = Which.same (sym e)
swapped (Which.sooner b) = Which.later b
swapped (Which.later b) = Which.sooner b

-- what comes before v, a branch of u: what comes before u, u itself, and what lies below the lower branches of u
pub data Ahead (n : ℕ) (inner : List ℕ) (u v t : ℕ) : Type 0 where
  sooner : Before n inner t u → Ahead n inner u v t
  itself : t ≡ u → Ahead n inner u v t
  lower : (k : ℕ) → k < v → Branch n inner u k → Below inner k t → Ahead n inner u v t

pub ahead : {n : ℕ} {inner : List ℕ} {u v t : ℕ} → Branch n inner u v → Before n inner t v → Ahead n inner u v t
ahead {v = v} b (Before.above {c = c} bc uc) =
    elim (cases_eq c v) [
      | inl e ↦ Ahead.itself (one_inner bc b e)
      | inr ne ↦ Ahead.sooner (Before.above bc (below_branch b uc ne))
    ]
ahead {v = v} b (Before.beside {a = a} {b = c} ba bc ac ua uc) =
    elim (cases_eq c v) [
      | inl e ↦ let q = one_inner bc b e in Ahead.lower a (omega arith) (rw q at ba) ua
      | inr ne ↦ Ahead.sooner (Before.beside ba bc ac ua (below_branch b uc ne))
    ]

module _ (n : ℕ) (inner : List ℕ) (tree : Tree n inner) where
  pub branch_up : {s c : ℕ} → Branch n inner s c → s < c
  branch_up {c = c} b = grind arith

  pub below_le : {s t : ℕ} → t < n → Below inner s t → s ≤ t
  below_le l Below.itself = omega arith
  below_le {t = t} l (Below.farther z b) = grind (arith, below_le (omega arith) b)

  -- nothing lies below two branches of one section
  pub apart : {p a b t : ℕ} → Branch n inner p a → Branch n inner p b → a < b → Below inner a t → Below inner b t → ⊥
  apart {p} ba bb ab ua ub = grind (arith, forks ba bb ua ub, below_le)

  pub before_irrefl : {t : ℕ} → t < n → Before n inner t t → ⊥
  before_irrefl l (Before.above b u) = omega (arith, below_le l u)
  before_irrefl l (Before.beside ba bb ab ua ub) = apart ba bb ab ua ub

  pub nothing_before_neck : {t : ℕ} → 0 < n → Before n inner t 0 → ⊥
  nothing_before_neck l (Before.above b u) = omega (arith, b.outer, below_le l u)
  nothing_before_neck l (Before.beside ba bb ab ua ub) = omega (arith, bb.outer, below_le l ub)

  -- every section lies below the neck
  pub below_the_neck : (k t : ℕ) → t ≤ k → t < n → Below inner 0 t
  below_the_neck k zero p l = Below.itself
  below_the_neck zero (suc t) p l = grind arith
  below_the_neck (suc k) (suc t) p l = search (rules, Below.farther, below_the_neck k)

  -- what lies below u is u, or comes after it
  pub below_after : {u t : ℕ} → t < n → Below inner u t → (u ≡ t) ⊎ Before n inner u t
  below_after l Below.itself = inl refl
  below_after {u} {t} l (Below.farther z r) =
      let low = tree.lower t z l in
      elim (below_after (omega arith) r) [
        | inl e ↦ inr (Before.above (record { outer = z; within = l; hangs = sym e }) Below.itself)
        | inr b ↦ inr (before_trans b (Before.above (record { outer = z; within = l; hangs = refl }) Below.itself))
      ]

  -- what comes before u does not lie below it
  pub before_not_below : {t u : ℕ} → t < n → Before n inner t u → Below inner u t → ⊥
  before_not_below l bef u =
      elim (below_after l u) [
        | inl e ↦ before_irrefl l (rw e at bef)
        | inr b ↦ before_irrefl l (before_trans bef b)
      ]

  -- t is a branch of q, and q comes before s
  past : {q s t : ℕ} → s < n → Branch n inner q t → Before n inner q s → Which n inner s t
  past {s = s} {t = t} l own (Before.above {c = c} bc uc) =
      elim (cases_order c t) [
        | inl e ↦ elim (below_after l (rw e at uc)) [ inl q ↦ Which.same (sym q) | inr b ↦ Which.later b ]
        | inr (inl ct) ↦ Which.sooner (Before.beside bc own ct uc Below.itself)
        | inr (inr tc) ↦ Which.later (Before.beside own bc tc Below.itself uc)
      ]
  past l own (Before.beside ba bb ab ua ub) = search (rules, Which.later, Before.beside, branch_below)

  -- from the inner neighbour of t to t
  outward : {s t : ℕ} → s < t → t < n → Which n inner s (get_or inner t 0) → Which n inner s t
  outward {t = t} st l w =
      let own : Branch n inner (get_or inner t 0) t = record { outer = omega arith; within = l; hangs = refl } in
      elim w [
        | same e ↦ Which.sooner (Before.above (rw (sym e) at own) Below.itself)
        | sooner b ↦ Which.sooner (before_trans b (Before.above own Below.itself))
        | later b ↦ past (omega arith) own b
      ]

  which_within : (k s t : ℕ) → s + t < k → s < n → t < n → Which n inner s t
  which_within zero s t m p q = grind arith
  which_within (suc k) s t m p q =
      elim (cases_order s t) [
        | inl e ↦ Which.same e
        | inr (inl st) ↦ outward st q (which_within k s (get_or inner t 0) (grind (arith, tree.lower t)) p (grind (arith, tree.lower t)))
        | inr (inr ts) ↦ swapped (outward ts p (which_within k t (get_or inner s 0) (grind (arith, tree.lower s)) q (grind (arith, tree.lower s))))
      ]

  pub which : (s t : ℕ) → s < n → t < n → Which n inner s t
  which s t p q = which_within (s + t + 1) s t (omega arith) p q
