use Rattle.std.proofs.Common.{◌≡◌, ℕ, ◌+◌, ◌*◌, length, get_or, ap, ◌∙◌, arith}
use Rattle.siding.specs.Sheet.{overwritten, two_bytes}
use Rattle.siding.proofs.Overwritten.{overwritten_none, overwritten_after}
use Rattle.siding.proofs.Pairs.{pairs, length_pairs, pairs_more}
use Rattle.siding.proofs.siding.Siding.put_inner.Goals as goal

pub loop-s-init : goal.loop-s-init
unfolding pairs
loop-s-init c = overwritten_none c.args.buffer.now 4

pub loop-s-preserved : goal.loop-s-preserved
loop-s-preserved c =
    let s : ℕ = c.loop-s.s in
    let f : ℕ → ℕ = λ t. get_or c.args.self.now.track.inner t 0 in
    let old = c.args.buffer.now in
    let long : length (pairs f 0 s) ≡ 2 * s = length_pairs f 0 s in
    c.put_word.ensures
    ∙ ap (λ b. overwritten b (4 + 2 * s) (two_bytes (f s))) c.loop-s.invariant
    ∙ overwritten_after old 4 (pairs f 0 s) (two_bytes (f s)) (4 + 2 * s) (omega arith) (omega (arith, c.requires))
    ∙ ap (overwritten old 4) (pairs_more f s)

pub returns : goal.returns
unfolding pairs
returns c =
    let e : c.loop-s.s ≡ c.args.self.now.track.sections = omega arith in
    c.loop-s.invariant ∙ ap (λ k. overwritten c.args.buffer.now 4 (pairs (λ t. get_or c.args.self.now.track.inner t 0) 0 k)) e
