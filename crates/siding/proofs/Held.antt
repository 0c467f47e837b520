-- What every siding keeps, in the forms that the proofs of its changes use.
use Rattle.std.proofs.Common.{◌≡◌, ℕ, ◌+◌, ◌-◌, ◌<◌, ◌≤◌, Bool, true, false, cond, ltb, List, get_or, ℤ, pos, nat_abs, Ok, Err, sym, refl, ap, ◌∙◌, arith}
use Rattle.motion.specs.Tree.{Tree, total}
use Rattle.motion.specs.Demand.{demand_of, figure_of, Single}
use Rattle.motion.proofs.Bounds.{demands_within, figures_within}
use Rattle.motion.proofs.Sums.{sum_same}
use Rattle.siding.specs.declared.siding.Siding.{Siding}
use Rattle.siding.specs.declared.placed.Placed.{Placed}
use Rattle.siding.specs.declared.track.Track.{Track}
use Rattle.siding.specs.Kept.{Clear, TrueDemands, sizes}
use Rattle.siding.specs.Stands.{on_track}
use Rattle.siding.proofs.Counted.{sum_is_total, sum_most, sum_part}
use Rattle.siding.proofs.Way.{sizes_part}
use Rattle.std.proofs.lemmas.Bool.{ltb-true}
use Rattle.refusal.specs.declared.Refusal.TheVariants.{NoSection}

pub track_tree : (t : Track) → Tree t.sections t.inner
track_tree t = record { neck = t.neck; lower = t.lower }

pub held_tree : (x : Siding) → Tree x.track.sections x.track.inner
held_tree x = track_tree x.track

pub one_wagon : (x : Siding) → Single x.track.sections x.wagons.in_section
one_wagon x s l = x.wagons.single s

pub one_berth : (x : Siding) → Single x.track.sections x.berths.in_section
one_berth x s l = x.berths.single s

-- how many there are in all
pub placed_counted : (n : ℕ) (p : Placed) → n ≤ 512 → Clear n p.in_section → p.in_all ≡ total n p.in_section
placed_counted n p most clear = p.counted ∙ sum_is_total n p.in_section (omega (arith, p.long)) clear

pub wagons_counted : (x : Siding) → x.wagons.in_all ≡ total x.track.sections x.wagons.in_section
wagons_counted x = placed_counted x.track.sections x.wagons x.track.most x.clear.0

pub berths_counted : (x : Siding) → x.berths.in_all ≡ total x.track.sections x.berths.in_section
berths_counted x = placed_counted x.track.sections x.berths x.track.most x.clear.1

-- there are at most 512 wagons and berths, and at least those of one section
pub placed_within : (p : Placed) (s : ℕ) → s < 512 → (p.in_all ≤ 512) × (get_or p.in_section s 0 ≤ p.in_all)
placed_within p s l =
    let most = sum_most p.in_section p.single in
    let part = sum_part p.in_section s (omega (arith, p.long)) in
    (omega (arith, p.counted, p.long), omega (arith, p.counted))

pub held_wagons : (x : Siding) (s : ℕ) → s < x.track.sections → (x.wagons.in_all ≤ 512) × (get_or x.wagons.in_section s 0 ≤ x.wagons.in_all)
held_wagons x s l = placed_within x.wagons s (omega (arith, x.track.most))

pub held_berths : (x : Siding) (s : ℕ) → s < x.track.sections → (x.berths.in_all ≤ 512) × (get_or x.berths.in_section s 0 ≤ x.berths.in_all)
held_berths x s l = placed_within x.berths s (omega (arith, x.track.most))

pub held_demand : (x : Siding) (s : ℕ) → s < x.track.sections → nat_abs (get_or x.demand s (pos 0)) ≤ 512
held_demand x s l =
    let e = ap nat_abs (x.demands s l) in
    let b = demands_within x.track.sections x.track.inner x.wagons.in_section x.berths.in_section x.track.most (one_wagon x) (one_berth x) s in
    omega arith

pub held_figure : (x : Siding) → x.figure ≤ 261632
held_figure x = let b = figures_within x.track.sections x.track.inner x.wagons.in_section x.berths.in_section x.track.most (one_wagon x) (one_berth x) in omega (arith, x.sums)

-- true demands add up to the figure
pub sizes_figure : (n : ℕ) (inner wagons berths : List ℕ) (demand : List ℤ) → TrueDemands n inner wagons berths demand → sizes n demand ≡ figure_of n inner wagons berths
unfolding sizes figure_of
sizes_figure n inner wagons berths demand are =
    sum_same (λ k. nat_abs (get_or demand (k + 1) (pos 0))) (λ k. nat_abs (demand_of n inner wagons berths (k + 1))) (n - 1)
    (λ k l. ap nat_abs (are (k + 1) (omega arith)))

pub held_sizes : (x : Siding) → x.figure ≡ sizes x.track.sections x.demand
held_sizes x = x.sums ∙ sym (sizes_figure x.track.sections x.track.inner x.wagons.in_section x.berths.in_section x.demand x.demands)

-- a section that is read is there
pub section_in : (t : Track) (s r : ℕ) → Ok r ≡ on_track t s s → r < t.sections
section_in t s r e = by_test (ltb s t.sections) refl e
  where
    by_test : (b : Bool) → ltb s t.sections ≡ b → Ok r ≡ cond b (Ok s) (Err (NoSection s)) → r < t.sections
    by_test true c e = let l = ltb-true s t.sections c in let same : r ≡ s = cc in omega arith
    by_test false c e = let z : ◌≡◌ {A = ℕ} 0 1 = cc in omega arith

-- a demand without its sign is a part of the figure
pub held_part : (x : Siding) (s : ℕ) → 0 < s → s < x.track.sections → nat_abs (get_or x.demand s (pos 0)) ≤ x.figure
held_part x s p l = let part = sizes_part x.track.sections x.demand s p l in omega (arith, held_sizes x)

-- the away moves are few
pub held_away : (x : Siding) → x.page.away ≤ 400000
held_away x = let f = held_figure x in omega (arith, x.few, x.balances)
