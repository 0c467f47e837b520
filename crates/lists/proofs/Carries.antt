-- What a move does to a planner.
use Rattle.std.proofs.Common.{◌≡◌, ℕ, ◌<◌, List, length, get_or, set, ℤ, pos, sym, ◌∙◌, subst, ⊎_elim, arith}
use Rattle.std.proofs.lemmas.List.{get_or-set_same, get_or-set_other, length-set}
use Rattle.std.proofs.lemmas.Int.{ints}
use Rattle.std.proofs.lemmas.Bool.{cases_eq}
use Rattle.motion.specs.declared.ways.Way.{Way}
use Rattle.motion.specs.declared.ways.Way.TheVariants.{Outward, Inward}
use Rattle.motion.specs.Tree.{total}
use Rattle.motion.specs.Demand.{demand_of, Single}
use Rattle.motion.specs.Moves.{moved}
use Rattle.motion.specs.Due.{Asked, over, Eased}
use Rattle.motion.proofs.Order.{branch_up}
use Rattle.motion.proofs.Serving.{Nearer, nearer}
use Rattle.siding.specs.Kept.{TrueDemands}
use Rattle.siding.proofs.Held.{held_tree}
use Rattle.lists.specs.declared.planner.Planner.{Planner}
use Rattle.lists.specs.Cursors.{PassedAskNot}
use Rattle.lists.specs.Planner.{CanCarry}
use Rattle.lists.proofs.Asks.{even, asks_asked}

-- a demand that has come nearer to 0 asks for nothing that it did not ask for before
eased_asks : (way other : Way) (d d' : ℤ) → Asked way d → Eased way d d' → Asked other d' → Asked other d
eased_asks Outward Outward d d' a e b = a
eased_asks Outward Inward d d' a e b = let z : ⊥ = omega (arith, ints) in absurd z
eased_asks Inward Outward d d' a e b = let z : ⊥ = omega (arith, ints) in absurd z
eased_asks Inward Inward d d' a e b = a

one_eased : (way : Way) (d a b : ℤ) → Eased way d a → Eased way d b → a ≡ b
one_eased Outward d a b e f = omega (arith, ints)
one_eased Inward d a b e f = e ∙ sym f

-- what a planner keeps of these wagons and demands
pub record Kept (p : Planner) (wagons : List ℕ) (demand : List ℤ) : Type 0 where
  pub long : (length wagons ≡ 512) × (length demand ≡ 512)
  pub one_wagon : Single p.siding.now.track.sections wagons
  pub equal : total p.siding.now.track.sections wagons ≡ total p.siding.now.track.sections p.siding.now.berths.in_section
  pub demands : TrueDemands p.siding.now.track.sections p.siding.now.track.inner wagons p.siding.now.berths.in_section demand
  pub passed : (way : Way) (at : List ℕ) → PassedAskNot way p.siding.now.track.sections p.siding.now.track.inner p.demand at → PassedAskNot way p.siding.now.track.sections p.siding.now.track.inner demand at

module _ (p : Planner) (way : Way) (u v : ℕ) (can : CanCarry way p u v) where
  near : Nearer way p.siding.now.track.sections p.siding.now.track.inner p.wagons p.siding.now.berths.in_section u v
  near =
      nearer way p.siding.now.track.sections p.siding.now.track.inner p.wagons p.siding.now.berths.in_section u v (even p)
      (record { branch = can.branch; asks = can.asks; ready = can.ready; opened = can.opened })

  -- both ends have slots, a wagon is there, and the other end is free
  pub ends : (u < 512) × (v < 512) × (0 < get_or p.wagons (over way u v).from 0) × (get_or p.wagons (over way u v).to 0 ≡ 0)
  ends =
      let up = branch_up p.siding.now.track.sections p.siding.now.track.inner (held_tree p.siding.now) can.branch in
      let most = p.siding.now.track.most in
      (omega (arith, can.branch.within), omega (arith, can.branch.within), near.legal.there, near.legal.free)

  asked : Asked way (get_or p.demand v (pos 0))
  asked = asks_asked p way v can.branch.within can.asks

  module _ (now : ℤ) (eased : Eased way (get_or p.demand v (pos 0)) now) where
    at_v : get_or (set p.demand v now) v (pos 0) ≡ now
    at_v = get_or-set_same p.demand v now (pos 0) (omega (arith, p.long.1, can.branch.within, p.siding.now.track.most))

    at_others : (s : ℕ) → (s ≡ v → ⊥) → get_or (set p.demand v now) s (pos 0) ≡ get_or p.demand s (pos 0)
    at_others s ne = get_or-set_other p.demand v s now (pos 0) ne

    demands_moved : TrueDemands p.siding.now.track.sections p.siding.now.track.inner (moved p.wagons (over way u v)) p.siding.now.berths.in_section (set p.demand v now)
    demands_moved s l =
        ⊎_elim
        (λ (e : s ≡ v). subst (λ k. get_or (set p.demand v now) k (pos 0) ≡ demand_of p.siding.now.track.sections p.siding.now.track.inner (moved p.wagons (over way u v)) p.siding.now.berths.in_section k) (sym e)
        (at_v ∙ one_eased way _ _ _ (subst (λ d. Eased way d now) (p.demands v can.branch.within) eased) near.eased))
        (λ (ne : s ≡ v → ⊥). at_others s ne ∙ p.demands s l ∙ sym (near.demands s ne))
        (cases_eq s v)

    asked_before : (other : Way) (k : ℕ) → Asked other (get_or (set p.demand v now) k (pos 0)) → Asked other (get_or p.demand k (pos 0))
    asked_before other k a =
        ⊎_elim
        (λ (e : k ≡ v). subst (λ t. Asked other (get_or p.demand t (pos 0))) (sym e)
        (eased_asks way other _ _ asked eased (subst (Asked other) at_v (subst (λ t. Asked other (get_or (set p.demand v now) t (pos 0))) e a))))
        (λ (ne : k ≡ v → ⊥). subst (Asked other) (at_others k ne) a)
        (cases_eq k v)

    pub carried : (wagons : List ℕ) → wagons ≡ moved p.wagons (over way u v) → Kept p wagons (set p.demand v now)
    carried wagons is = subst (λ ws. Kept p ws (set p.demand v now)) (sym is) (record {
      long = (simp length-set p.long.0, simp length-set p.long.1);
      one_wagon = near.even.one_wagon;
      equal = near.even.equal;
      demands = demands_moved;
      passed = λ other at was s k b ahead a. was s k b ahead (asked_before other k a);
    })
