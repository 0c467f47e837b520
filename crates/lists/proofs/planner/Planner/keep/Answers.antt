use Rattle.std.proofs.Common.{subst}
use Rattle.motion.specs.declared.ways.Way.TheVariants.{Outward, Inward}
use Rattle.lists.specs.Planner.{Asking}
use Rattle.lists.proofs.Searches.{put_found}
use Rattle.lists.proofs.planner.Planner.keep.Goals as goal

pub invariant_of-self : goal.invariant_of-self
invariant_of-self c =
    let p = c.args.self.now in
    let asking = subst (λ way. Asking p.siding.now p.wagons way c.args.u c.args.found) c.in-Outward.is c.requires.asking in
    let put = put_found p Outward c.args.u c.requires.within c.args.found asking c.unwrap_or-cursor.result c.unwrap_or-cursor.ensures p.outward p.long_too.0 p.outward_at p.outward_passed in
    record {
      long = p.long;
      long_too = (put.0, p.long_too.1);
      one_wagon = p.one_wagon;
      equal = p.equal;
      demands = p.demands;
      outward_at = put.1;
      inward_at = p.inward_at;
      outward_passed = put.2;
      inward_passed = p.inward_passed;
    }

pub invariant_of-self-in-Inward : goal.invariant_of-self-in-Inward
invariant_of-self-in-Inward c =
    let p = c.args.self.now in
    let asking = subst (λ way. Asking p.siding.now p.wagons way c.args.u c.args.found) c.in-Inward.is c.requires.asking in
    let put = put_found p Inward c.args.u c.requires.within c.args.found asking c.unwrap_or-cursor.result c.unwrap_or-cursor.ensures p.inward p.long_too.1 p.inward_at p.inward_passed in
    record {
      long = p.long;
      long_too = (p.long_too.0, put.0);
      one_wagon = p.one_wagon;
      equal = p.equal;
      demands = p.demands;
      outward_at = p.outward_at;
      inward_at = put.1;
      outward_passed = p.outward_passed;
      inward_passed = put.2;
    }
