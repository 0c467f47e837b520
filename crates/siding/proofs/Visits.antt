-- A visit from a section: the section itself, and then the row of its branches.
use Rattle.std.specs.Option.{is_some}
use Rattle.std.proofs.Common.{◌≡◌, ℕ, ◌+◌, ◌<◌, ◌≤◌, Bool, true, false, List, [], ◌∷◌, ◌++◌, length, take, get_or, Some, None, Option, sym, refl, ap, ◌∙◌, subst, ⊎_elim, arith}
use Rattle.std.proofs.lemmas.List.{get_or-take, get_or_append_left, get_or-append-add, length_push}
use Rattle.std.proofs.lemmas.Grind.{get_or_default_zero}
use Rattle.std.proofs.lemmas.Bool.{cases_eq, cases_lt, cases_order}
use Rattle.motion.specs.Tree.{Branch, Below}
use Rattle.motion.specs.Visit.{Before, Unsettled}
use Rattle.motion.proofs.Order.{below_trans, before_trans, before_irrefl, before_not_below}
use Rattle.siding.specs.declared.siding.Siding.{Siding}
use Rattle.siding.specs.Branches.{branches_of}
use Rattle.siding.specs.Steps.{CalmBelow, FirstBelow, Visited, RowVisited}
use Rattle.siding.proofs.Searched.{row_branch, branch_place, row_rises}
use Rattle.siding.proofs.Held.{held_tree}

-- t lies below u: it is u, or lies below one of its branches
data Within (x : Siding) (u t : ℕ) : Type 0 where
  itself : u ≡ t → Within x u t
  further : (k : ℕ) → Branch x.track.sections x.track.inner u k → Below x.track.inner k t → Within x u t

within : (x : Siding) (u t : ℕ) → t < x.track.sections → Below x.track.inner u t → Within x u t
within x u t l Below.itself = itself refl
within x u t l (Below.farther p r) = one_in x u t p l (within x u (get_or x.track.inner t 0) (let low = x.track.lower t p l in omega arith) r)
  where
    one_in : (x : Siding) (u t : ℕ) → 0 < t → t < x.track.sections → Within x u (get_or x.track.inner t 0) → Within x u t
    one_in x u t p l (itself e) = further t (record { outer = p; within = l; hangs = sym e }) Below.itself
    one_in x u t p l (further k b r) = further k b (Below.farther p r)

-- the section is settled, and its row was visited
pub by_row : (x : Siding) (u : ℕ) (r : Option ℕ) → (Unsettled x.track.sections x.track.inner x.wagons.in_section x.berths.in_section u → ⊥) → RowVisited x u r → Visited x u r
by_row x u (Some w) settled row =
    record {
      within = row.first.within;
      under = below_trans (Below.farther row.branch.outer (subst (Below x.track.inner u) (sym row.branch.hangs) Below.itself)) row.first.under;
      unsettled = row.first.unsettled;
      none_before = λ t l below before un. go t l before un (within x u t l below);
    }
  where
    go : (t : ℕ) → t < x.track.sections → Before x.track.sections x.track.inner t w → Unsettled x.track.sections x.track.inner x.wagons.in_section x.berths.in_section t → Within x u t → ⊥
    go t l before un (itself e) = settled (subst (Unsettled x.track.sections x.track.inner x.wagons.in_section x.berths.in_section) (sym e) un)
    go t l before un (further k b r) =
        ⊎_elim
        (λ (e : k ≡ row.at). row.first.none_before t l (subst (λ v. Below x.track.inner v t) e r) before un)
        (⊎_elim
        (λ (low : k < row.at). row.lower k low b t l r un)
        (λ (high : row.at < k).
        let after : Before x.track.sections x.track.inner w t = Before.beside row.branch b high row.first.under r in
        before_irrefl x.track.sections x.track.inner (held_tree x) l (before_trans before after)))
        (cases_order k row.at)
by_row x u None settled row = λ t l below un. go t l un (within x u t l below)
  where
    go : (t : ℕ) → t < x.track.sections → Unsettled x.track.sections x.track.inner x.wagons.in_section x.berths.in_section t → Within x u t → ⊥
    go t l un (itself e) = settled (subst (Unsettled x.track.sections x.track.inner x.wagons.in_section x.berths.in_section) (sym e) un)
    go t l un (further k b r) = row k b t l r un

-- the section itself is unsettled
pub at_itself : (x : Siding) (u : ℕ) → u < x.track.sections → Unsettled x.track.sections x.track.inner x.wagons.in_section x.berths.in_section u → FirstBelow x u u
at_itself x u l un = record {
  within = l;
  under = Below.itself;
  unsettled = un;
  none_before = λ t lt below before _. before_not_below x.track.sections x.track.inner (held_tree x) lt before below;
}

-- a branch has a higher number than its section
pub branch_higher : (x : Siding) (u b : ℕ) → Branch x.track.sections x.track.inner u b → u < b
branch_higher x u b br = let low = x.track.lower b br.outer br.within in let e = br.hangs in omega arith

-- a visit of the branches of u one after another: nothing at or below those that came is unsettled
module _ (x : Siding) (u : ℕ) (xs : List ℕ) (calm : (k : ℕ) → k < length xs → CalmBelow x (get_or xs k 0)) where
  module _ (b : ℕ) (so_far : xs ≡ take (length xs) (branches_of x.track u)) (turn : (length xs < length (branches_of x.track u)) × (b ≡ get_or (branches_of x.track u) (length xs) b)) where
    pub turn_branch : Branch x.track.sections x.track.inner u b
    turn_branch = subst (Branch x.track.sections x.track.inner u) (sym turn.1) (row_branch x.track u (length xs) b turn.0)

    lower_came : (k : ℕ) → k < b → Branch x.track.sections x.track.inner u k → CalmBelow x k
    lower_came k low br =
        let all : List ℕ = branches_of x.track u in
        let p = branch_place x.track u k br in
        let here = p.is 0 in
        let there : get_or all (length xs) 0 ≡ b = sym (get_or_default_zero all (length xs) b turn.0) ∙ sym turn.1 in
        ⊎_elim
        (λ (h : p.at < length xs).
        let came : get_or xs p.at 0 ≡ k = ap (λ ys. get_or ys p.at 0) so_far ∙ get_or-take (length xs) all p.at 0 h ∙ here in
        subst (CalmBelow x) came (calm p.at h))
        (λ (h : length xs ≤ p.at).
        ⊎_elim
        (λ (e : p.at ≡ length xs). let same = ap (λ j. get_or all j 0) e in absurd (omega arith))
        (λ (ne : p.at ≡ length xs → ⊥). let up = row_rises x.track u (length xs) p.at 0 (omega arith) p.within in absurd (omega arith))
        (cases_eq p.at (length xs)))
        (cases_lt p.at (length xs))

    -- the branch whose visit found a section
    pub found_in_row : (r : Option ℕ) → is_some r ≡ true → Visited x b r → RowVisited x u r
    found_in_row (Some w) some first = record { at = b; branch = turn_branch; lower = lower_came; first = first }
    found_in_row None some first = let z : ◌≡◌ {A = Bool} false true = some in absurd (cc)

  -- a branch more
  pub one_more_calm : (b : ℕ) (r : Option ℕ) → is_some r ≡ false → Visited x b r → (k : ℕ) → k < length (xs ++ b ∷ []) → CalmBelow x (get_or (xs ++ b ∷ []) k 0)
  one_more_calm b (Some w) none visited k l = let z : ◌≡◌ {A = Bool} true false = none in absurd (cc)
  one_more_calm b None none visited k l =
      let long = length_push xs b in
      ⊎_elim
      (λ (h : k < length xs). subst (CalmBelow x) (sym (get_or_append_left xs (b ∷ []) 0 k h)) (calm k h))
      (λ (h : length xs ≤ k).
      let e : k ≡ length xs + 0 = omega arith in
      let at : get_or (xs ++ b ∷ []) k 0 ≡ b = ap (λ j. get_or (xs ++ b ∷ []) j 0) e ∙ get_or-append-add xs (b ∷ []) 0 0 in
      subst (CalmBelow x) (sym at) visited)
      (cases_lt k (length xs))

  -- and all of them
  pub all_calm : xs ≡ branches_of x.track u → (k : ℕ) → Branch x.track.sections x.track.inner u k → CalmBelow x k
  all_calm e k br =
      let p = branch_place x.track u k br in
      subst (CalmBelow x) (ap (λ ys. get_or ys p.at 0) e ∙ p.is 0) (calm p.at (omega (arith, p.within, ap length e)))
