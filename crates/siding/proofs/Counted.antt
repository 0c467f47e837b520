-- How many there are in all sections, once one section has one more or one less.
use Rattle.std.proofs.Common.{◌≡◌, ℕ, zero, suc, ◌+◌, ◌-◌, ◌<◌, ◌≤◌, List, [], ◌∷◌, length, get_or, sum, sym, ap, ◌∙◌, arith}
use Rattle.std.proofs.lemmas.List.Sums.{sum_by-cons, get_or-le-sum_by}
use Rattle.std.specs.List.{sum_by}
use Rattle.motion.specs.Tree.{sum_to, total}
use Rattle.motion.proofs.Sums.{sum_none, sum_more}
use Rattle.siding.specs.Kept.{Clear}

-- at most one to a section
abbrev pub AtMostOne : List ℕ → Type 0
AtMostOne xs = (s : ℕ) → get_or xs s 0 ≤ 1

pub sum_most : (xs : List ℕ) → AtMostOne xs → sum xs ≤ length xs
sum_most [] one = omega arith
sum_most (x ∷ xs) one = let ih = sum_most xs (λ s. one (suc s)) in let first = one 0 in let e = sum_by-cons (λ y. y) x xs in omega arith

module _ (xs : List ℕ) (s : ℕ) (l : s < length xs) where
  pub sum_part : get_or xs s 0 ≤ sum xs
  sum_part = get_or-le-sum_by (λ y. y) xs s 0 l

-- the sum of a list is the sum over its places
shifted : (f : ℕ → ℕ) (n : ℕ) → sum_to f (suc n) ≡ f 0 + sum_to (λ k. f (suc k)) n
unfolding sum_to
shifted f zero = omega arith
shifted f (suc n) = let ih = shifted f n in omega arith

pub by_places : {X : Type 0} (h : X → ℕ) (d : X) (xs : List X) → sum_to (λ t. h (get_or xs t d)) (length xs) ≡ sum_by h xs
by_places h d [] = sum_none (λ t. h (get_or [] t d))
by_places h d (x ∷ xs) = shifted (λ t. h (get_or (x ∷ xs) t d)) (length xs) ∙ ap (λ k. h x + k) (by_places h d xs) ∙ sym (sum_by-cons h x xs)

-- what stands past n sections adds nothing
past_nothing : (n : ℕ) (xs : List ℕ) → Clear n xs → (k : ℕ) → total (n + k) xs ≡ total n xs
past_nothing n xs clear zero = let e : n + 0 ≡ n = omega arith in ap (λ m. total m xs) e
past_nothing n xs clear (suc k) =
    let e : n + suc k ≡ n + k + 1 = omega arith in
    let more = sum_more (λ t. get_or xs t 0) (n + k) in
    let none = clear (n + k) (omega arith) in
    ap (λ m. total m xs) e ∙ more ∙ ap (λ v. total (n + k) xs + v) none ∙ (let z : total (n + k) xs + 0 ≡ total (n + k) xs = omega arith in z) ∙ past_nothing n xs clear k

pub sum_is_total : (n : ℕ) (xs : List ℕ) → n ≤ length xs → Clear n xs → sum xs ≡ total n xs
sum_is_total n xs most clear =
    let e : length xs ≡ n + (length xs - n) = omega arith in
    sym (by_places (λ y. y) 0 xs) ∙ ap (λ m. total m xs) e ∙ past_nothing n xs clear (length xs - n)
