-- The numbers of a sheet, two bytes each.
use Rattle.std.proofs.Common.{◌≡◌, ℕ, zero, suc, ◌+◌, ◌*◌, ◌/◌, ◌%◌, ◌<◌, List, [], ◌∷◌, ◌++◌, length, get_or, sym, refl, ap, ◌∙◌, arith}
use Rattle.std.specs.List.{range_with_len, flat_map}
use Rattle.std.proofs.lemmas.List.FromFn.{map-range_with_len_more}
use Rattle.std.proofs.lemmas.List.{flat_map_more, map-id}
use Rattle.siding.specs.Sheet.{two_bytes}

-- numbers one after another, two bytes each
unfoldable pub pairs : (ℕ → ℕ) → ℕ → ℕ → List ℕ
pairs f a n = flat_map (λ s. two_bytes (f s)) (range_with_len a n)

pub length_pairs : (f : ℕ → ℕ) (a n : ℕ) → length (pairs f a n) ≡ 2 * n
unfolding pairs
length_pairs f a zero = refl
length_pairs f a (suc n) = let ih = length_pairs f (a + 1) n in omega arith

pub pairs_high : (f : ℕ → ℕ) (a n i s : ℕ) → i < n → a + i ≡ s → get_or (pairs f a n) (2 * i) 0 ≡ f s / 256
unfolding pairs
pairs_high f a zero i s l e = let z : ⊥ = omega arith in absurd z
pairs_high f a (suc n) zero s l e = let h : a ≡ s = omega arith in ap (λ t. f t / 256) h
pairs_high f a (suc n) (suc i) s l e =
    let two : 2 * suc i ≡ suc (suc (2 * i)) = omega arith in
    rw two (pairs_high f (a + 1) n i s (omega arith) (omega arith))

pub pairs_low : (f : ℕ → ℕ) (a n i s : ℕ) → i < n → a + i ≡ s → get_or (pairs f a n) (2 * i + 1) 0 ≡ f s % 256
unfolding pairs
pairs_low f a zero i s l e = let z : ⊥ = omega arith in absurd z
pairs_low f a (suc n) zero s l e = let h : a ≡ s = omega arith in ap (λ t. f t % 256) h
pairs_low f a (suc n) (suc i) s l e =
    let two : 2 * suc i + 1 ≡ suc (suc (2 * i + 1)) = omega arith in
    rw two (pairs_low f (a + 1) n i s (omega arith) (omega arith))

-- one number more
pub pairs_more : (f : ℕ → ℕ) (n : ℕ) → pairs f 0 n ++ two_bytes (f n) ≡ pairs f 0 (n + 1)
unfolding pairs
pairs_more f n =
    let more : range_with_len 0 (n + 1) ≡ range_with_len 0 n ++ n ∷ [] =
    sym (map-id (range_with_len 0 (n + 1))) ∙ map-range_with_len_more (λ x. x) 0 n n (omega arith) ∙ ap (λ xs. xs ++ n ∷ []) (map-id (range_with_len 0 n)) in
    flat_map_more (λ s. two_bytes (f s)) [] (range_with_len 0 n) n ∙ ap (flat_map (λ s. two_bytes (f s))) (sym more)
