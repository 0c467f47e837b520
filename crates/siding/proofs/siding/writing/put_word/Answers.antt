use Rattle.std.proofs.Common.{◌≡◌, ◌+◌, ◌-◌, ◌/◌, ◌%◌, [], ◌∷◌, ◌++◌, take, drop, ap, ◌∙◌, arith}
use Rattle.std.proofs.lemmas.List.{drop-drop}
use Rattle.siding.specs.Sheet.{overwritten, two_bytes}
use Rattle.siding.proofs.siding.writing.put_word.Goals as goal

pub returns : goal.returns
unfolding overwritten
returns c =
    let buffer = c.args.buffer.now in
    let at = c.args.at in
    let high : c.args.value / 256 % 256 ≡ c.args.value / 256 = let f = c.ranges.value.fits in omega arith in
    let bytes : c.copy_from_slice.new.self ≡ two_bytes c.args.value = c.copy_from_slice.ensures.after ∙ c.to_be_bytes.ensures ∙ ap (λ k. k ∷ c.args.value % 256 ∷ []) high in
    let back : at + 2 - at ≡ 2 = omega arith in
    let past : drop (at + 2 - at) (drop at buffer) ≡ drop (at + 2) buffer = ap (λ k. drop k (drop at buffer)) back ∙ drop-drop 2 at buffer in
    ap (λ ys. take at buffer ++ (ys ++ drop (at + 2 - at) (drop at buffer))) bytes ∙ ap (λ zs. take at buffer ++ (two_bytes c.args.value ++ zs)) past
