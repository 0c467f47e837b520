-- Parts of a sheet that are copied into an array, with zeros past them.
use Rattle.std.proofs.Common.{◌≡◌, ℕ, ◌+◌, ◌-◌, ◌*◌, ◌<◌, ◌≤◌, List, ◌++◌, length, get_or, take, drop, replicate, refl, ap, ◌∙◌, arith}
use Rattle.std.proofs.lemmas.List.{get_or_append_left, get_or-append_right, get_or-drop, get_or-take, length-append, length-drop, length-replicate, length-take-le}
use Rattle.siding.specs.Sheet.{slots, sheet_size, sections_of, word, inner_of, mark_of}
use Rattle.siding.proofs.Blank.{blank}
use Rattle.siding.proofs.Slots.{slots_made}

-- a list with zeros past it
abbrev pub padded : List ℕ → ℕ → List ℕ
padded xs size = xs ++ replicate (size - length xs) 0

padded_in : (xs : List ℕ) (size s : ℕ) → s < length xs → get_or (padded xs size) s 0 ≡ get_or xs s 0
padded_in xs size s l = get_or_append_left xs (replicate (size - length xs) 0) 0 s l

padded_past : (xs : List ℕ) (size s : ℕ) → length xs ≤ s → get_or (padded xs size) s 0 ≡ 0
padded_past xs size s l = get_or-append_right xs (replicate (size - length xs) 0) (length xs) s 0 refl l ∙ blank (size - length xs) 0 (s - length xs)

length_padded : (xs : List ℕ) (size : ℕ) → length xs ≤ size → length (padded xs size) ≡ size
length_padded xs size l =
    let a = length-append xs (replicate (size - length xs) 0) in
    let r : length (replicate {A = ℕ} (size - length xs) 0) ≡ size - length xs = length-replicate {A = ℕ} (size - length xs) 0 in
    omega arith

-- a sheet of n sections
module _ (bytes : List ℕ) (n : ℕ) (most : n ≤ 512) (stated : n ≡ sections_of bytes) (size : length bytes ≡ sheet_size n) where
  -- its marks, up to its end
  abbrev pub marks : List ℕ
  marks = take (length bytes - (4 + 2 * n)) (drop (4 + 2 * n) bytes)

  marks_long : length marks ≡ n
  marks_long = let d = length-drop (4 + 2 * n) bytes in omega (arith, length-take-le (length bytes - (4 + 2 * n)) (drop (4 + 2 * n) bytes) (omega arith))

  pub marks_padded : padded marks 512 ≡ slots n (mark_of bytes)
  marks_padded =
      slots_made n (mark_of bytes) (padded marks 512) (length_padded marks 512 (omega (arith, marks_long))) (λ s l. (
        λ low.
            padded_in marks 512 s (omega (arith, marks_long))
            ∙ get_or-take (length bytes - (4 + 2 * n)) (drop (4 + 2 * n) bytes) s 0 (omega arith)
            ∙ get_or-drop (4 + 2 * n) bytes s 0
            ∙ ap (λ m. get_or bytes (4 + 2 * m + s) 0) stated,
        λ high. padded_past marks 512 s (omega (arith, marks_long)),
      ))

  -- the two bytes of each inner neighbour
  abbrev pub pairs : List ℕ
  pairs = take (4 + 2 * n - 4) (drop 4 bytes)

  pairs_long : length pairs ≡ 2 * n
  pairs_long = let d = length-drop 4 bytes in omega (arith, length-take-le (4 + 2 * n - 4) (drop 4 bytes) (omega arith))

  pair_byte : (k : ℕ) → k < 2 * n → get_or (padded pairs 1024) k 0 ≡ get_or bytes (4 + k) 0
  pair_byte k l =
      padded_in pairs 1024 k (omega (arith, pairs_long))
      ∙ get_or-take (4 + 2 * n - 4) (drop 4 bytes) k 0 (omega arith)
      ∙ get_or-drop 4 bytes k 0

  pub pair_padded : (s : ℕ) → (s < n → word (padded pairs 1024) (2 * s) ≡ inner_of bytes s) × (n ≤ s → word (padded pairs 1024) (2 * s) ≡ 0)
  pair_padded s = (
    λ low.
        let high_byte = pair_byte (2 * s) (omega arith) in
        let low_byte = pair_byte (2 * s + 1) (omega arith) ∙ ap (λ k. get_or bytes k 0) (omega arith) in
        ap (λ v. 256 * v + get_or (padded pairs 1024) (2 * s + 1) 0) high_byte
        ∙ ap (λ v. 256 * get_or bytes (4 + 2 * s) 0 + v) low_byte,
    λ high.
        let high_byte = padded_past pairs 1024 (2 * s) (omega (arith, pairs_long)) in
        let low_byte = padded_past pairs 1024 (2 * s + 1) (omega (arith, pairs_long)) in
        omega arith,
  )
