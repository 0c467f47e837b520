use Rattle.siding.specs.Stands.{state_of}
use Rattle.planning.specs.Promise.{Passage}
use Rattle.planning.proofs.Kept.{passed}
use Rattle.planning.proofs.replay.replay.Goals as goal

pub returns : goal.returns
returns c =
    let accepted = c.in_ok-draw_up.ensures.drawn in
    let start = c.draw_up.new.self in
    let end = c.act_all.new.siding in
    let passage : Passage c.args.acts.now (state_of start) (state_of end) = passed c.args.acts.now start end c.act_all.ensures in
    record { run = rw accepted passage; answer = rw accepted (cc) }
