-- In how many ways i sections are chosen from c.
use Rattle.std.specs.Prelude.{ℕ, zero, suc, ◌+◌}

-- none in one way; some from none in no way; otherwise the last of the c sections is chosen, or it is not
unfoldable pub choose : ℕ → ℕ → ℕ
choose c zero = 1
choose zero (suc i) = 0
choose (suc c) (suc i) = choose c i + choose c (suc i)
