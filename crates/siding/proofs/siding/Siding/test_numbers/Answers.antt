use Rattle.std.proofs.Common.{sym, refl, ◌∙◌}
use Rattle.siding.proofs.Held.{wagons_counted, berths_counted}
use Rattle.siding.proofs.siding.Siding.test_numbers.Goals as goal

pub returns-then-self : goal.returns-then-self
returns-then-self c =
    let x = c.args.self.now in
    (λ e. c.if-self.true (wagons_counted x ∙ e ∙ sym (berths_counted x)), refl)

pub returns : goal.returns
returns c =
    let x = c.args.self.now in
    sym (wagons_counted x) ∙ c.if-self.false ∙ berths_counted x
