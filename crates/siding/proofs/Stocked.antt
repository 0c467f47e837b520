-- One wagon or berth more or less in a section.
use Rattle.std.proofs.Common.{◌≡◌, ℕ, ◌<◌, ◌≤◌, true, false, cond, List, length, get_or, set, ℤ, pos, negsuc, ◌+ℤ◌, nat_abs, sym, refl, ap, ◌∙◌, subst, arith}
use Rattle.std.proofs.lemmas.List.{get_or-set_other}
use Rattle.std.proofs.lemmas.Int.{ints}
use Rattle.motion.specs.Tree.{is_below}
use Rattle.motion.specs.Demand.{demand_of}
use Rattle.motion.specs.Moves.{one_less, one_more, one_if}
use Rattle.motion.proofs.Changed.{under_more, under_less}
use Rattle.siding.specs.declared.siding.Siding.{Siding}
use Rattle.siding.specs.declared.placed.Placed.{Placed}
use Rattle.siding.specs.Kept.{Clear, TrueDemands}
use Rattle.siding.specs.Restock.{MayStand}

module _ (n : ℕ) (xs : List ℕ) (s : ℕ) (l : s < n) (long : n ≤ length xs) where
  pub clear_set : (v : ℕ) → Clear n xs → Clear n (set xs s v)
  clear_set v clear t h = get_or-set_other xs s t v 0 (λ e. omega arith) ∙ clear t h

-- the demands after that
module _ (n : ℕ) (inner wagons berths : List ℕ) (s : ℕ) (l : s < n) where
  pub put_demand : n ≤ length wagons → (t : ℕ) → demand_of n inner (one_more wagons s) berths t ≡ demand_of n inner wagons berths t +ℤ cond (is_below inner t s) (negsuc 0) (pos 0)
  put_demand long t =
      let u = under_more n wagons s l long inner t in
      let c : cond (is_below inner t s) (negsuc 0) (pos 0) +ℤ pos (one_if (is_below inner t s)) ≡ pos 0 =
      elim (is_below inner t s) as (λ b. cond b (negsuc 0) (pos 0) +ℤ pos (one_if b) ≡ pos 0) [ true ↦ refl | false ↦ refl ] in
      omega (arith, ints)

  pub take_demand : n ≤ length wagons → 0 < get_or wagons s 0 → (t : ℕ) → demand_of n inner (one_less wagons s) berths t ≡ demand_of n inner wagons berths t +ℤ cond (is_below inner t s) (pos 1) (pos 0)
  take_demand long some t =
      let u = under_less n wagons s l long some inner t in
      let c : cond (is_below inner t s) (pos 1) (pos 0) ≡ pos (one_if (is_below inner t s)) =
      elim (is_below inner t s) as (λ b. cond b (pos 1) (pos 0) ≡ pos (one_if b)) [ true ↦ refl | false ↦ refl ] in
      omega (arith, ints)

  pub mark_demand : n ≤ length berths → (t : ℕ) → demand_of n inner wagons (one_more berths s) t ≡ demand_of n inner wagons berths t +ℤ cond (is_below inner t s) (pos 1) (pos 0)
  mark_demand long t =
      let u = under_more n berths s l long inner t in
      let c : cond (is_below inner t s) (pos 1) (pos 0) ≡ pos (one_if (is_below inner t s)) =
      elim (is_below inner t s) as (λ b. cond b (pos 1) (pos 0) ≡ pos (one_if b)) [ true ↦ refl | false ↦ refl ] in
      omega (arith, ints)

  pub unmark_demand : n ≤ length berths → 0 < get_or berths s 0 → (t : ℕ) → demand_of n inner wagons (one_less berths s) t ≡ demand_of n inner wagons berths t +ℤ cond (is_below inner t s) (negsuc 0) (pos 0)
  unmark_demand long some t =
      let u = under_less n berths s l long some inner t in
      let c : cond (is_below inner t s) (negsuc 0) (pos 0) +ℤ pos (one_if (is_below inner t s)) ≡ pos 0 =
      elim (is_below inner t s) as (λ b. cond b (negsuc 0) (pos 0) +ℤ pos (one_if b) ≡ pos 0) [ true ↦ refl | false ↦ refl ] in
      omega (arith, ints)

-- what the calls make of a siding may stand there
module _ (x : Siding) (s : ℕ) (l : s < x.track.sections) (new : Placed) where
  fits_wagons : x.track.sections ≤ length x.wagons.in_section
  fits_wagons = omega (arith, x.track.most, x.wagons.long)

  fits_berths : x.track.sections ≤ length x.berths.in_section
  fits_berths = omega (arith, x.track.most, x.berths.long)

  -- other wagons
  wagons_stand : (wagons : List ℕ) (by : ℤ) → new.in_section ≡ wagons → nat_abs by ≤ 1 → Clear x.track.sections wagons
      → ((t : ℕ) → demand_of x.track.sections x.track.inner wagons x.berths.in_section t ≡ demand_of x.track.sections x.track.inner x.wagons.in_section x.berths.in_section t +ℤ cond (is_below x.track.inner t s) by (pos 0))
      → MayStand x new x.berths s by
  wagons_stand wagons by e one clear demands = record {
    within = l;
    one = one;
    clear_wagons = subst (Clear x.track.sections) (sym e) clear;
    clear_berths = x.clear.1;
    demands = λ t k. ap (λ w. demand_of x.track.sections x.track.inner w x.berths.in_section t) e ∙ demands t;
  }

  -- other berths
  berths_stand : (berths : List ℕ) (by : ℤ) → new.in_section ≡ berths → nat_abs by ≤ 1 → Clear x.track.sections berths
      → ((t : ℕ) → demand_of x.track.sections x.track.inner x.wagons.in_section berths t ≡ demand_of x.track.sections x.track.inner x.wagons.in_section x.berths.in_section t +ℤ cond (is_below x.track.inner t s) by (pos 0))
      → MayStand x x.wagons new s by
  berths_stand berths by e one clear demands = record {
    within = l;
    one = one;
    clear_wagons = x.clear.0;
    clear_berths = subst (Clear x.track.sections) (sym e) clear;
    demands = λ t k. ap (λ b. demand_of x.track.sections x.track.inner x.wagons.in_section b t) e ∙ demands t;
  }

  pub put_stands : new.in_section ≡ one_more x.wagons.in_section s → MayStand x new x.berths s (negsuc 0)
  put_stands e =
      wagons_stand (one_more x.wagons.in_section s) (negsuc 0) e (omega arith)
      (clear_set x.track.sections x.wagons.in_section s l fits_wagons _ x.clear.0)
      (put_demand x.track.sections x.track.inner x.wagons.in_section x.berths.in_section s l fits_wagons)

  pub take_stands : 0 < get_or x.wagons.in_section s 0 → new.in_section ≡ one_less x.wagons.in_section s → MayStand x new x.berths s (pos 1)
  take_stands some e =
      wagons_stand (one_less x.wagons.in_section s) (pos 1) e (omega arith)
      (clear_set x.track.sections x.wagons.in_section s l fits_wagons _ x.clear.0)
      (take_demand x.track.sections x.track.inner x.wagons.in_section x.berths.in_section s l fits_wagons some)

  pub mark_stands : new.in_section ≡ one_more x.berths.in_section s → MayStand x x.wagons new s (pos 1)
  mark_stands e =
      berths_stand (one_more x.berths.in_section s) (pos 1) e (omega arith)
      (clear_set x.track.sections x.berths.in_section s l fits_berths _ x.clear.1)
      (mark_demand x.track.sections x.track.inner x.wagons.in_section x.berths.in_section s l fits_berths)

  pub unmark_stands : 0 < get_or x.berths.in_section s 0 → new.in_section ≡ one_less x.berths.in_section s → MayStand x x.wagons new s (negsuc 0)
  unmark_stands some e =
      berths_stand (one_less x.berths.in_section s) (negsuc 0) e (omega arith)
      (clear_set x.track.sections x.berths.in_section s l fits_berths _ x.clear.1)
      (unmark_demand x.track.sections x.track.inner x.wagons.in_section x.berths.in_section s l fits_berths some)

-- demands that were shifted by so much are those of the new wagons and berths
pub shifted_demands :
    (x : Siding) (wagons berths : Placed) (at : ℕ) (by raw : ℤ) (new : List ℤ) → MayStand x wagons berths at by → raw ≡ by
    → ((s : ℕ) → s < x.track.sections → get_or new s (pos 0) ≡ get_or x.demand s (pos 0) +ℤ cond (is_below x.track.inner s at) raw (pos 0))
    → TrueDemands x.track.sections x.track.inner wagons.in_section berths.in_section new
shifted_demands x wagons berths at by raw new may same shifted s l =
    shifted s l
    ∙ ap (λ z. get_or x.demand s (pos 0) +ℤ cond (is_below x.track.inner s at) z (pos 0)) same
    ∙ ap (λ z. z +ℤ cond (is_below x.track.inner s at) by (pos 0)) (x.demands s l)
    ∙ sym (may.demands s l)
