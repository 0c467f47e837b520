use Rattle.std.proofs.Common.{ap, ◌∙◌}
use Rattle.siding.specs.Branches.{row_from}
use Rattle.siding.proofs.Branches.{row_first, row_outside}
use Rattle.siding.proofs.track.Track.branches.Goals.{then-section-self, else-section-self}
use Rattle.siding.proofs.track.Track.branches.Goals as goal

pub returns : goal.returns
returns c =
    let t = c.args.self.now in
    elim c.if-section-self.branch [
      | then-section-self w ↦ ap (row_from t) (w.at-is ∙ w.from-at.ensures) ∙ row_first t c.args.section
      | else-section-self w ↦ ap (row_from t) w.at-is ∙ row_outside t c.args.section w.if-section-self.false
    ]
