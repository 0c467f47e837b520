use Rattle.siding.proofs.Held.{section_in}
use Rattle.siding.proofs.Stocked.{put_stands}
use Rattle.siding.proofs.siding.Siding.put.Goals as goal

pub restocked-requires : goal.restocked-requires
restocked-requires c =
    let x = c.args.self.now in
    put_stands x c.in_ok-s.s (section_in x.track c.args.section _ c.in_ok-s.ensures) c.add.new.self c.add.ensures
