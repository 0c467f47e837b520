-- The cursors of a planner: what a search finds, and where it leaves them.
use Rattle.std.proofs.Common.{◌≡◌, ℕ, ◌<◌, List, length, get_or, set, ℤ, pos, sym, subst, ⊎_elim, arith, Some, None, Option, w16, to_z, of_z}
use Rattle.std.specs.Option.{unwrap_or}
use Rattle.std.proofs.lemmas.List.{get_or-set_same, get_or-set_other, length-set}
use Rattle.std.proofs.lemmas.Bool.{cases_eq}
use Rattle.motion.specs.declared.ways.Way.{Way}
use Rattle.motion.specs.declared.ways.Way.TheVariants.{Outward, Inward}
use Rattle.motion.specs.Tree.{Branch}
use Rattle.motion.specs.Due.{Asked}
use Rattle.siding.specs.Branches.{row_from}
use Rattle.lists.specs.declared.planner.Planner.{Planner}
use Rattle.lists.specs.Cursors.{AtBranches, PassedAskNot}
use Rattle.lists.specs.Planner.{cursors, Asking}
use Rattle.lists.proofs.Asks.{asked_asks, asks_asked, stored}
use Rattle.lists.proofs.Sought.{LowestYes, FoundIn, sought}

-- one cursor is put elsewhere
module _ (n : ℕ) (inner at : List ℕ) (u c : ℕ) (l : u < length at) where
  here : get_or (set at u c) u 0 ≡ c
  here = get_or-set_same at u c 0 l

  put_at : (0 < c → (c < n) × (get_or inner c 0 ≡ u)) → AtBranches n inner at → AtBranches n inner (set at u c)
  put_at so all t =
      ⊎_elim
      (λ (e : t ≡ u). subst (λ s. 0 < get_or (set at u c) s 0 → (get_or (set at u c) s 0 < n) × (get_or inner (get_or (set at u c) s 0) 0 ≡ s)) (sym e)
      (subst (λ k. 0 < k → (k < n) × (get_or inner k 0 ≡ u)) (sym here) so))
      (λ (ne : t ≡ u → ⊥). subst (λ k. 0 < k → (k < n) × (get_or inner k 0 ≡ t)) (sym (get_or-set_other at u t c 0 ne)) (all t))
      (cases_eq t u)

  put_passed : (way : Way) (demand : List ℤ) → ((k : ℕ) → Branch n inner u k → (0 < c → k < c) → Asked way (get_or demand k (pos 0)) → ⊥)
      → PassedAskNot way n inner demand at → PassedAskNot way n inner demand (set at u c)
  put_passed way demand so all t =
      ⊎_elim
      (λ (e : t ≡ u). subst (λ s. (k : ℕ) → Branch n inner s k → (0 < get_or (set at u c) s 0 → k < get_or (set at u c) s 0) → Asked way (get_or demand k (pos 0)) → ⊥) (sym e)
      (subst (λ v. (k : ℕ) → Branch n inner u k → (0 < v → k < v) → Asked way (get_or demand k (pos 0)) → ⊥) (sym here) so))
      (λ (ne : t ≡ u → ⊥). subst (λ v. (k : ℕ) → Branch n inner t k → (0 < v → k < v) → Asked way (get_or demand k (pos 0)) → ⊥) (sym (get_or-set_other at u t c 0 ne)) (all t))
      (cases_eq t u)

-- the demand that is kept of k asks
abbrev pub AsksNow : Planner → Way → ℕ → Type 0
AsksNow p way k = Asked way (get_or p.demand k (pos 0))

-- the same of the demand as the program passes it on
abbrev pub AsksPassed : Planner → Way → ℕ → Type 0
AsksPassed p way k = Asked way (to_z w16 (of_z w16 (get_or p.demand k (pos 0))))

module _ (p : Planner) where
  -- where a cursor stands
  stands : (way : Way) (u : ℕ) → 0 < get_or (cursors way p) u 0
      → (get_or (cursors way p) u 0 < p.siding.now.track.sections) × (get_or p.siding.now.track.inner (get_or (cursors way p) u 0) 0 ≡ u)
  stands Outward u = p.outward_at u
  stands Inward u = p.inward_at u

  passed : (way : Way) (u k : ℕ) → Branch p.siding.now.track.sections p.siding.now.track.inner u k → (0 < get_or (cursors way p) u 0 → k < get_or (cursors way p) u 0) → AsksNow p way k → ⊥
  passed Outward u = p.outward_passed u
  passed Inward u = p.inward_passed u

  module _ (way : Way) (u : ℕ) where
    -- what the search from there finds
    by_demand : (r : Option ℕ) → LowestYes p.siding.now.track.sections p.siding.now.track.inner (AsksPassed p way) u r → Asking p.siding.now p.wagons way u r
    by_demand (Some v) low = record {
      branch = low.0;
      asks = asked_asks p way v low.0.within (subst (Asked way) (stored p v low.0.within) low.1);
      lowest = λ k l b a. low.2 k l b (subst (Asked way) (sym (stored p k b.within)) (asks_asked p way k b.within a));
    }
    by_demand None none = λ k b a. none k b (subst (Asked way) (sym (stored p k b.within)) (asks_asked p way k b.within a))

    pub found_asking : (r : Option ℕ) → FoundIn (AsksPassed p way) (row_from p.siding.now.track (get_or (cursors way p) u 0)) r → Asking p.siding.now p.wagons way u r
    found_asking r found =
        by_demand r
        (sought p.siding.now.track (AsksPassed p way) u (get_or (cursors way p) u 0) (stands way u)
        (λ k b ahead a. passed way u k b ahead (subst (Asked way) (stored p k b.within) a)) r found)

    -- so the cursor may be put there
    found_at : (found : Option ℕ) → Asking p.siding.now p.wagons way u found
        → 0 < unwrap_or found 0 → (unwrap_or found 0 < p.siding.now.track.sections) × (get_or p.siding.now.track.inner (unwrap_or found 0) 0 ≡ u)
    found_at (Some c) low some = (low.branch.within, low.branch.hangs)
    found_at None low some = absurd (omega arith)

    found_passed : (found : Option ℕ) → Asking p.siding.now p.wagons way u found → (k : ℕ) → Branch p.siding.now.track.sections p.siding.now.track.inner u k
        → (0 < unwrap_or found 0 → k < unwrap_or found 0) → AsksNow p way k → ⊥
    found_passed (Some c) low k b ahead a = low.lowest k (ahead low.branch.outer) b (asked_asks p way k b.within a)
    found_passed None low k b ahead a = low k b (asked_asks p way k b.within a)

    pub put_found : u < p.siding.now.track.sections → (found : Option ℕ) → Asking p.siding.now p.wagons way u found → (c : ℕ) → c ≡ unwrap_or found 0 → (at : List ℕ) → length at ≡ 512
        → AtBranches p.siding.now.track.sections p.siding.now.track.inner at → PassedAskNot way p.siding.now.track.sections p.siding.now.track.inner p.demand at
        → (length (set at u c) ≡ 512) × AtBranches p.siding.now.track.sections p.siding.now.track.inner (set at u c) × PassedAskNot way p.siding.now.track.sections p.siding.now.track.inner p.demand (set at u c)
    put_found l found asking c is at long stand passed =
        let m : u < length at = omega (arith, p.siding.now.track.most) in (
          simp length-set long,
          put_at p.siding.now.track.sections p.siding.now.track.inner at u c m (subst (λ k. 0 < k → (k < p.siding.now.track.sections) × (get_or p.siding.now.track.inner k 0 ≡ u)) (sym is) (found_at found asking)) stand,
          put_passed p.siding.now.track.sections p.siding.now.track.inner at u c m way p.demand
              (subst (λ v. (k : ℕ) → Branch p.siding.now.track.sections p.siding.now.track.inner u k → (0 < v → k < v) → (AsksNow p way k → ⊥)) (sym is) (found_passed found asking)) passed,
        )
