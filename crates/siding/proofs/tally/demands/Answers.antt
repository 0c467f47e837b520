use Rattle.std.proofs.Common.{◌≡◌, length, rules, ℕ, ◌-◌, ◌<◌, ◌≢◌, get_or, pos, ◌∙◌, arith}
use Rattle.std.proofs.lemmas.List.{length-set, get_or-set_other}
use Rattle.std.proofs.lemmas.Int.{ints}
use Rattle.motion.proofs.Gathered.{gathered_none}
use Rattle.siding.proofs.Demands.{own_clear, gathered_small, gathered_more, gathered_done}
use Rattle.siding.proofs.Held.{track_tree}
use Rattle.siding.proofs.tally.demands.Goals as goal

pub loop-s-init : goal.loop-s-init
loop-s-init c =
    let own = c.own_demands-demand.ensures in
    let long : length c.own_demands-demand.result ≡ 512 = search rules in (
      long,
      λ u l.
          let b = gathered_none c.args.track.now.sections c.args.track.now.inner c.args.berths.now.in_section u in
          let w = gathered_none c.args.track.now.sections c.args.track.now.inner c.args.wagons.now.in_section u in
          let m = c.args.track.now.most in
          let e = own u (omega arith) in
          omega (arith, ints),
      λ u l. own_clear c.args.track.now.sections c.args.wagons.now c.args.berths.now c.own_demands-demand.result long own c.requires.clear_wagons c.requires.clear_berths u l,
    )

-- the section that is added is at least 1, and lower than all so far
low : (c : goal.After-demand-in-loop-s-1) → get_or c.args.track.now.inner (c.loop-s.s - 1) 0 < c.loop-s.s - 1
low c = (track_tree c.args.track.now).lower (c.loop-s.s - 1) (omega arith) (omega arith)

pub overflow_add-demand : goal.overflow_add-demand
overflow_add-demand c =
    let k : ℕ = c.loop-s.s in
    let inner = c.args.track.now.inner in
    let p = low c in
    let small = gathered_small c.args.track.now.sections inner c.args.wagons.now.in_section c.args.berths.now.in_section (track_tree c.args.track.now) in
    let a = small k (k - 1) _ c.args.track.now.most (λ s l. c.args.wagons.now.single s) (λ s l. c.args.berths.now.single s) (omega arith) (c.loop-s.invariant.1 (k - 1) (omega arith)) in
    let b = small k (get_or inner (k - 1) 0) _ c.args.track.now.most (λ s l. c.args.wagons.now.single s) (λ s l. c.args.berths.now.single s) (omega arith) (c.loop-s.invariant.1 (get_or inner (k - 1) 0) (omega arith)) in
    rw c.from-p.ensures (omega (arith, ints))

pub loop-s-preserved : goal.loop-s-preserved
loop-s-preserved c =
    let k : ℕ = c.loop-s.s in
    let inner = c.args.track.now.inner in
    let p : get_or inner (k - 1) 0 < k - 1 = (track_tree c.args.track.now).lower (k - 1) (omega arith) (omega arith) in
    let small = gathered_small c.args.track.now.sections inner c.args.wagons.now.in_section c.args.berths.now.in_section (track_tree c.args.track.now) in
    let a = small k (k - 1) _ c.args.track.now.most (λ s l. c.args.wagons.now.single s) (λ s l. c.args.berths.now.single s) (omega arith) (c.loop-s.invariant.1 (k - 1) (omega arith)) in
    let b = small k (get_or inner (k - 1) 0) _ c.args.track.now.most (λ s l. c.args.wagons.now.single s) (λ s l. c.args.berths.now.single s) (omega arith) (c.loop-s.invariant.1 (get_or inner (k - 1) 0) (omega arith)) in (
      simp length-set c.loop-s.invariant.0,
      rw c.from-p.ensures (gathered_more c.args.track.now.sections inner c.args.wagons.now.in_section c.args.berths.now.in_section (track_tree c.args.track.now) k c.loop-s.demand _
          (omega arith) (omega arith) (omega arith) c.loop-s.invariant.1 (omega (arith, ints))),
      λ u l. let ne : u ≢ get_or inner (k - 1) 0 = omega arith in rw c.from-p.ensures (get_or-set_other c.loop-s.demand (get_or inner (k - 1) 0) u _ (pos 0) ne ∙ c.loop-s.invariant.2 u l),
    )

pub returns : goal.returns
returns c = record {
  are = gathered_done c.args.track.now.sections c.args.track.now.inner c.args.wagons.now.in_section c.args.berths.now.in_section (track_tree c.args.track.now) c.loop-s.s c.loop-s.demand (omega arith) c.loop-s.invariant.1;
  clear = c.loop-s.invariant.2;
}
