-- One turn of the loop that gathers the demands, from the highest section down.
use Rattle.std.proofs.Common.{◌≡◌, ℕ, ◌+◌, ◌-◌, ◌<◌, ◌≤◌, List, length, get_or, set, ℤ, pos, ◌+ℤ◌, ◌-ℤ◌, nat_abs, ap, ◌∙◌, ⊎_elim, arith}
use Rattle.std.proofs.lemmas.List.{get_or-set_same, get_or-set_other, get_or_past}
use Rattle.std.proofs.lemmas.Int.{ints}
use Rattle.std.proofs.lemmas.Bool.{cases_eq, cases_lt}
use Rattle.motion.specs.Tree.{Tree}
use Rattle.motion.specs.Demand.{Single}
use Rattle.motion.proofs.Bounds.{under_most, total_most}
use Rattle.motion.proofs.Gathered.{gathered, gathered_all, gathered_inner, gathered_other, gathered_most}
use Rattle.siding.specs.declared.placed.Placed.{Placed}
use Rattle.siding.specs.Kept.{Clear, ClearDemands, TrueDemands}

-- the demands once the sections from k on are gathered
abbrev pub Gathered : ℕ → ℕ → List ℕ → List ℕ → List ℕ → List ℤ → Type 0
Gathered k n inner wagons berths demand =
    (u : ℕ) → u < n → get_or demand u (pos 0) ≡ pos (gathered k n inner berths u) -ℤ pos (gathered k n inner wagons u)

module _ (n : ℕ) (inner wagons berths : List ℕ) (tree : Tree n inner) where
  -- so far no demand is larger than there are wagons or berths
  pub gathered_small : (k u : ℕ) (d : ℤ) → n ≤ 512 → Single n wagons → Single n berths → u < n
      → d ≡ pos (gathered k n inner berths u) -ℤ pos (gathered k n inner wagons u) → nat_abs d ≤ 512
  gathered_small k u d h w b l e =
      let a = gathered_most n inner tree k berths u l in
      let c = gathered_most n inner tree k wagons u l in
      let f = under_most n inner berths u in
      let g = under_most n inner wagons u in
      let p = total_most n berths b in
      let q = total_most n wagons w in
      omega (arith, ints)

  -- the section just below k is complete, and is added to its inner neighbour's
  pub gathered_more : (k : ℕ) (demand : List ℤ) (d : ℤ) → 1 < k → k ≤ n → n ≤ length demand → Gathered k n inner wagons berths demand
      → d ≡ get_or demand (get_or inner (k - 1) 0) (pos 0) +ℤ get_or demand (k - 1) (pos 0)
      → Gathered (k - 1) n inner wagons berths (set demand (get_or inner (k - 1) 0) d)
  gathered_more k demand d high fits long was new u l =
      let s : ℕ = k - 1 in
      let p : ℕ = get_or inner s 0 in
      let low : p < s = tree.lower s (omega arith) (omega arith) in
      let e : k ≡ s + 1 = omega arith in
      ⊎_elim
      (λ (at : u ≡ p).
      let v : get_or (set demand p d) u (pos 0) ≡ d = ap (λ x. get_or (set demand p d) x (pos 0)) at ∙ get_or-set_same demand p d (pos 0) (omega arith) in
      let a = was p (omega arith) in
      let b = was s (omega arith) in
      let ab = gathered_all n inner tree k berths s (omega arith) (omega arith) in
      let aw = gathered_all n inner tree k wagons s (omega arith) (omega arith) in
      let ib = gathered_inner n inner tree k s berths (omega arith) (omega arith) e in
      let iw = gathered_inner n inner tree k s wagons (omega arith) (omega arith) e in
      let ub = ap (gathered s n inner berths) at in
      let uw = ap (gathered s n inner wagons) at in
      omega (arith, ints))
      (λ (ne : u ≡ p → ⊥).
      let v : get_or (set demand p d) u (pos 0) ≡ get_or demand u (pos 0) = get_or-set_other demand p u d (pos 0) ne in
      let a = was u l in
      let ob = gathered_other n inner tree k s berths u e ne in
      let ow = gathered_other n inner tree k s wagons u e ne in
      omega (arith, ints))
      (cases_eq u p)

  pub gathered_done : (k : ℕ) (demand : List ℤ) → k ≤ 1 → Gathered k n inner wagons berths demand → TrueDemands n inner wagons berths demand
  gathered_done k demand h was u l =
      let a = was u l in
      let b = gathered_all n inner tree k berths u l (omega arith) in
      let w = gathered_all n inner tree k wagons u l (omega arith) in
      omega (arith, ints)

-- the sections' own demands, past them
pub own_clear : (n : ℕ) (wagons berths : Placed) (demand : List ℤ) → length demand ≡ 512
    → ((s : ℕ) → s < 512 → get_or demand s (pos 0) ≡ pos (get_or berths.in_section s 0) -ℤ pos (get_or wagons.in_section s 0))
    → Clear n wagons.in_section → Clear n berths.in_section → ClearDemands n demand
own_clear n wagons berths demand long are w b s l =
    ⊎_elim
    (λ (h : s < 512). let e = are s h in let v = w s l in let k = b s l in omega (arith, ints))
    (λ (h : 512 ≤ s). get_or_past demand s (pos 0) (omega arith))
    (cases_lt s 512)
