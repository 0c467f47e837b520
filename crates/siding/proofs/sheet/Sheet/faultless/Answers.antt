use Rattle.std.proofs.Common.{◌≡◌, ℕ, List, Err, sym, subst}
use Rattle.refusal.specs.declared.Refusal.TheVariants.{InnerNotLower, MarkTooLarge}
use Rattle.siding.specs.Sheet.{drawn}
use Rattle.siding.proofs.Drawn.{drawn_inner_fault, drawn_mark_fault}
use Rattle.siding.proofs.DrawnUp.{sheet_sized}
use Rattle.siding.proofs.sheet.Sheet.faultless.Goals as goal

pub returns-in-Some : goal.returns-in-Some
returns-in-Some c =
    let x = c.in_ok-sheet.sheet in
    subst (λ (bytes : List ℕ). drawn bytes ≡ Err (InnerNotLower c.in-Some.s)) c.in_ok-sheet.ensures
    (drawn_inner_fault x.bytes.now x.sections (sheet_sized x) c.in-Some.s (sym c.in-Some.ensures))

pub returns-in-Some-mark_fault : goal.returns-in-Some-mark_fault
returns-in-Some-mark_fault c =
    let x = c.in_ok-sheet.sheet in
    subst (λ (bytes : List ℕ). drawn bytes ≡ Err (MarkTooLarge c.in-Some-mark_fault.s)) c.in_ok-sheet.ensures
    (drawn_mark_fault x.bytes.now x.sections (sheet_sized x) c.in-Some-mark_fault.s (sym c.in_default.ensures) (sym c.in-Some-mark_fault.ensures))
