use Rattle.std.proofs.Common.{◌≡◌, sym, ap, ◌∙◌, inl, inr, ⊎_elim, arith}
use Rattle.siding.specs.Sheet.{sections_of, sheet_size}
use Rattle.siding.proofs.Drawn.{drawn_short, drawn_size, drawn_length}
use Rattle.siding.proofs.sheet.Sheet.sized.Goals as goal

pub returns-then-bytes-lt4 : goal.returns-then-bytes-lt4
returns-then-bytes-lt4 c = drawn_short c.args.bytes.now c.if-bytes-lt4.true

pub returns-then-sections-eq0 : goal.returns-then-sections-eq0
returns-then-sections-eq0 c =
    let n : c.from-sections.result ≡ sections_of c.args.bytes.now = c.from-sections.ensures ∙ c.word_at.ensures in
    drawn_size c.args.bytes.now c.if-bytes-lt4.false
    (⊎_elim (λ z. inl (sym n ∙ z)) (λ l. inr (omega (arith, l.1))) c.then-sections-eq0.either)

pub returns-then-bytes-sections : goal.returns-then-bytes-sections
returns-then-bytes-sections c =
    let n : c.from-sections.result ≡ sections_of c.args.bytes.now = c.from-sections.ensures ∙ c.word_at.ensures in
    drawn_length c.args.bytes.now c.if-bytes-lt4.false (omega arith) (omega arith) (λ e. c.if-bytes-sections.true (e ∙ ap sheet_size (sym n)))
