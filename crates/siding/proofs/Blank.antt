-- An array just made holds the same value at every place, and past its end that value is read too.
use Rattle.std.proofs.Common.{◌≡◌, ℕ, ◌<◌, ◌≤◌, get_or, replicate, ⊎_elim, arith}
use Rattle.std.proofs.lemmas.List.{get_or-replicate, get_or_past, length-replicate}
use Rattle.std.proofs.lemmas.Bool.{cases_lt}

pub blank : {A : Type 0} (m : ℕ) (a : A) (u : ℕ) → get_or (replicate m a) u a ≡ a
blank m a u =
    ⊎_elim
    (λ (l : u < m). get_or-replicate m u a a l)
    (λ (l : m ≤ u). get_or_past (replicate m a) u a (omega (arith, length-replicate m a)))
    (cases_lt u m)
