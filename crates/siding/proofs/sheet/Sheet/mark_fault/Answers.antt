use Rattle.std.proofs.Common.{◌≡◌, true, false, rules, tests}
use Rattle.std.proofs.lemmas.Iterator.{first_from_Range}
use Rattle.siding.specs.Sheet.{mark_at_fault}
use Rattle.siding.proofs.LowestFault.{lowest_is}
use Rattle.siding.proofs.sheet.Sheet.mark_fault.Goals as goal

pub returns : goal.returns
returns c =
    let test = mark_at_fault c.args.self.now.bytes.now in
    lowest_is test c.args.self.now.sections c.find.result
    (first_from_Range _ _ _ _ (λ s. test s ≡ true) (λ s. test s ≡ false) c.find.ensures.ran (λ x q k. search (rules, tests)) (λ x q k. search (rules, tests)))
