use Rattle.std.proofs.Common.{◌≡◌, ℕ, ◌+◌, ◌*◌, map, length, set, sym, ap, ◌∙◌, arith}
use Rattle.std.specs.List.{range_with_len}
use Rattle.std.proofs.lemmas.List.FromFn.{length-map-range_with_len, map-range_with_len_more}
use Rattle.siding.specs.Sheet.{overwritten, mark}
use Rattle.siding.specs.Stands.{state_of}
use Rattle.siding.proofs.Overwritten.{overwritten_none, overwritten_more}
use Rattle.siding.proofs.siding.Siding.put_marks.Goals as goal

pub loop-s-init : goal.loop-s-init
loop-s-init c = overwritten_none c.args.buffer.now (4 + 2 * c.args.self.now.track.sections)

pub loop-s-preserved : goal.loop-s-preserved
loop-s-preserved c =
    let s : ℕ = c.loop-s.s in
    let n : ℕ = c.args.self.now.track.sections in
    let f : ℕ → ℕ = mark (state_of c.args.self.now) in
    let old = c.args.buffer.now in
    let long : length (map f (range_with_len 0 s)) ≡ s = length-map-range_with_len f 0 s in
    let here : 4 + 2 * n + s ≡ 4 + 2 * n + length (map f (range_with_len 0 s)) = omega arith in
    ap (set c.loop-s.buffer (4 + 2 * n + s)) c.mark_at.ensures
    ∙ ap (λ b. set b (4 + 2 * n + s) (f s)) c.loop-s.invariant
    ∙ ap (λ k. set (overwritten old (4 + 2 * n) (map f (range_with_len 0 s))) k (f s)) here
    ∙ overwritten_more old (4 + 2 * n) (map f (range_with_len 0 s)) (f s) (omega (arith, c.requires))
    ∙ ap (overwritten old (4 + 2 * n)) (sym (map-range_with_len_more f 0 s s (omega arith)))
