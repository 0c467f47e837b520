use Rattle.std.proofs.Common.{◌≡◌, ◌/◌, get_or, refl, rules, tests}
use Rattle.siding.specs.Sheet.{mark_of}
use Rattle.siding.proofs.Made.{made_each}
use Rattle.siding.proofs.Slots.{slots_mapped}
use Rattle.siding.proofs.sheet.Sheet.berths.Goals as goal

pub returns : goal.returns
returns c =
    let x = c.args.self.now in
    let marks = c.marks-marks.result in
    slots_mapped x.sections (mark_of x.bytes.now) (λ mark. mark / 2) marks c.from_fn.result x.most refl c.marks-marks.ensures c.from_fn.ensures.items.long (λ s l.
    made_each _ _ (λ i r. r ≡ get_or marks i 0 / 2) (λ i r q k. search (rules, tests)) c.from_fn.result 512 c.from_fn.ensures.items s l 0)
