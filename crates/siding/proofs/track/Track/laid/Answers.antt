use Rattle.std.proofs.Common.{replicate, refl, arith, rules}
use Rattle.std.proofs.lemmas.List.{length-set}
use Rattle.siding.proofs.Blank.{blank}
use Rattle.siding.proofs.Links.{linked_none, linked_more}
use Rattle.siding.proofs.track.Track.laid.Goals as goal

pub loop-s-init : goal.loop-s-init
loop-s-init c = (refl, refl, linked_none c.args.sections c.args.inner (replicate 512 0) (replicate 512 0) (blank 512 0) (blank 512 0))

pub loop-s-preserved : goal.loop-s-preserved
loop-s-preserved c = (
  simp length-set c.loop-s.invariant.0,
  simp length-set c.loop-s.invariant.1,
  rw c.from-p.ensures (linked_more c.loop-s.s c.args.sections c.args.inner c.loop-s.first c.loop-s.next c.requires.tree
      c.loop-s-test.true c.loop-s.auto.s (omega arith) (omega arith) c.loop-s.invariant.2),
)

pub invariant_of-result : goal.invariant_of-result
invariant_of-result c =
    let done = c.loop-s.invariant.2 in
    record {
      long = (search rules, c.loop-s.invariant.0, c.loop-s.invariant.1);
      some = c.requires.some;
      most = c.requires.most;
      neck = c.requires.tree.neck;
      lower = c.requires.tree.lower;
      clear = c.requires.clear;
      first_lowest = λ u v b. done.first_lowest u v (omega (arith, b.outer)) b;
      first_branch = λ u p. let f = done.first_branch u p in (f.1, f.2);
      next_lowest = λ b v two. done.next_lowest b v (omega (arith, two.outer)) two;
      next_branch = λ b p. let f = done.next_branch b p in (f.0, f.2, f.3, f.4);
    }
