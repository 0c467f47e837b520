use Rattle.std.proofs.Common.{◌≡◌, ◌*◌, ap, ◌∙◌, rules, tests}
use Rattle.siding.specs.Sheet.{inner_of, word}
use Rattle.siding.proofs.Made.{made_each}
use Rattle.siding.proofs.Padded.{pair_padded}
use Rattle.siding.proofs.Slots.{slots_made}
use Rattle.siding.proofs.sheet.Sheet.inner.Goals as goal

pub returns : goal.returns
returns c =
    let x = c.args.self.now in
    let pairs = c.padded-pairs.result in
    slots_made x.sections (inner_of x.bytes.now) c.from_fn.result c.from_fn.ensures.items.long (λ s l.
    let made = made_each _ _ (λ i r. r ≡ word pairs (2 * i)) (λ i r q k. search (rules, tests)) c.from_fn.result 512 c.from_fn.ensures.items s l 0 in
    let pair = made ∙ ap (λ xs. word xs (2 * s)) c.padded-pairs.ensures in
    let is = pair_padded x.bytes.now x.sections x.most x.stated x.size s in
    (λ low. pair ∙ is.0 low, λ high. pair ∙ is.1 high))
