use Rattle.siding.proofs.Held.{section_in}
use Rattle.siding.proofs.Stocked.{unmark_stands}
use Rattle.siding.proofs.siding.Siding.unmark.Goals as goal

pub restocked-requires : goal.restocked-requires
restocked-requires c =
    let x = c.args.self.now in
    unmark_stands x c.in_ok-s.s (section_in x.track c.args.section _ c.in_ok-s.ensures) c.remove.new.self c.in_ok-test_one.ensures c.remove.ensures
