use Rattle.std.proofs.Common.{◌∙◌}
use Rattle.siding.proofs.Padded.{marks_padded}
use Rattle.siding.proofs.sheet.Sheet.marks.Goals as goal

pub returns : goal.returns
returns c = let x = c.args.self.now in c.padded.ensures ∙ marks_padded x.bytes.now x.sections x.most x.stated x.size
