-- Bytes written into a buffer, one after another.
use Rattle.std.proofs.Common.{◌≡◌, ℕ, ◌+◌, ◌<◌, ◌≤◌, List, [], ◌∷◌, ◌++◌, length, get_or, take, drop, set, sym, refl, ap, ◌∙◌, arith}
use Rattle.std.proofs.lemmas.List.{append_assoc, length-append, length_push, length-take-le, take-append-drop, take_at, drop_at, drop-drop, length-drop, drop_more, set_at}
use Rattle.siding.specs.Sheet.{overwritten}

pub overwritten_none : (buffer : List ℕ) (at : ℕ) → buffer ≡ overwritten buffer at []
unfolding overwritten
overwritten_none buffer at =
    let z : at + 0 ≡ at = omega arith in
    sym (ap (λ k. take at buffer ++ drop k buffer) z ∙ take-append-drop at buffer)

module _ (buffer : List ℕ) (at : ℕ) (bytes : List ℕ) where
  -- what was written, with what stands before it
  front : List ℕ
  front = take at buffer ++ bytes

  length_front : at ≤ length buffer → length front ≡ at + length bytes
  unfolding front
  length_front l = let a = length-append (take at buffer) bytes in let b = length-take-le at buffer l in omega arith

  in_front : overwritten buffer at bytes ≡ front ++ drop (at + length bytes) buffer
  unfolding overwritten front
  in_front = sym (append_assoc (take at buffer) bytes (drop (at + length bytes) buffer))

  -- one byte more
  pub overwritten_more : (b : ℕ) → at + length bytes < length buffer → set (overwritten buffer at bytes) (at + length bytes) b ≡ overwritten buffer at (bytes ++ b ∷ [])
  unfolding overwritten front
  overwritten_more b l =
      let k : ℕ = at + length bytes in
      let next : at + length (bytes ++ b ∷ []) ≡ k + 1 = let p = length_push bytes b in omega arith in
      ap (λ xs. set xs k b) (in_front ∙ ap (λ ys. front ++ ys) (drop_more buffer k 0 l))
      ∙ set_at front (get_or buffer k 0) (drop (k + 1) buffer) b k (length_front (omega arith))
      ∙ append_assoc (take at buffer) bytes (b ∷ drop (k + 1) buffer)
      ∙ ap (λ ys. take at buffer ++ ys) (sym (append_assoc bytes (b ∷ []) (drop (k + 1) buffer)))
      ∙ ap (λ j. take at buffer ++ ((bytes ++ b ∷ []) ++ drop j buffer)) (sym next)

  -- more bytes, right after those
  pub overwritten_after : (more : List ℕ) (k : ℕ) → k ≡ at + length bytes → at + length bytes ≤ length buffer → overwritten (overwritten buffer at bytes) k more ≡ overwritten buffer at (bytes ++ more)
  unfolding overwritten front
  overwritten_after more k e l =
      let old : ℕ = at + length bytes in
      let whole : overwritten buffer at bytes ≡ front ++ drop k buffer = in_front ∙ ap (λ j. front ++ drop j buffer) (sym e) in
      let long : length front ≡ k = length_front (omega arith) ∙ sym e in
      let taken : take k (overwritten buffer at bytes) ≡ front = ap (take k) whole ∙ take_at front (drop k buffer) k long in
      let left : drop (k + length more) (overwritten buffer at bytes) ≡ drop (k + length more) buffer =
      sym (drop-drop (length more) k (overwritten buffer at bytes))
      ∙ ap (drop (length more)) (ap (drop k) whole ∙ drop_at front (drop k buffer) k long)
      ∙ drop-drop (length more) k buffer in
      let end : k + length more ≡ at + length (bytes ++ more) = let p = length-append bytes more in omega arith in
      ap (λ ys. ys ++ (more ++ drop (k + length more) (overwritten buffer at bytes))) taken
      ∙ ap (λ ys. front ++ (more ++ ys)) left
      ∙ append_assoc (take at buffer) bytes (more ++ drop (k + length more) buffer)
      ∙ ap (λ ys. take at buffer ++ ys) (sym (append_assoc bytes more (drop (k + length more) buffer)))
      ∙ ap (λ j. take at buffer ++ ((bytes ++ more) ++ drop j buffer)) end

  pub length_overwritten : at + length bytes ≤ length buffer → length (overwritten buffer at bytes) ≡ length buffer
  length_overwritten l =
      let a = length-append front (drop (at + length bytes) buffer) in
      let b = length_front (omega arith) in
      let c = ap length in_front in
      let d = length-drop (at + length bytes) buffer in
      omega arith

-- two bytes
pub overwritten_two : (buffer : List ℕ) (at a b : ℕ) → at + 1 < length buffer → set (set buffer at a) (at + 1) b ≡ overwritten buffer at (a ∷ b ∷ [])
overwritten_two buffer at a b l =
    let z : at + 0 ≡ at = omega arith in
    let one : set buffer at a ≡ overwritten buffer at (a ∷ []) =
    ap (λ xs. set xs at a) (overwritten_none buffer at) ∙ ap (λ k. set (overwritten buffer at []) k a) (sym z) ∙ overwritten_more buffer at [] a (omega arith) in
    ap (λ xs. set xs (at + 1) b) one ∙ overwritten_more buffer at (a ∷ []) b l

-- what was written at the start of a buffer
pub take_overwritten : (buffer bytes : List ℕ) → take (length bytes) (overwritten buffer 0 bytes) ≡ bytes
unfolding overwritten
take_overwritten buffer bytes = take_at bytes (drop (0 + length bytes) buffer) (length bytes) refl
