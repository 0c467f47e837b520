use Rattle.std.proofs.Common.{◌∙◌, sym}
use Rattle.siding.proofs.Held.{held_demand}
use Rattle.siding.proofs.Row.{stored_wants}
use Rattle.siding.proofs.siding.Siding.wants.Goals as goal

pub returns : goal.returns
returns c =
    let x = c.args.self.now in
    let told = stored_wants _ (held_demand x c.args.s c.requires) in
    let is = x.demands c.args.s c.requires in
    (λ yes none. told.0 yes (is ∙ none), λ wants. told.1 (λ none. wants (sym is ∙ none)))
