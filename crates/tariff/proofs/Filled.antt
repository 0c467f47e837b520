-- The table of no list.
use Rattle.std.proofs.Common.{ℕ, ◌<◌, ◌≤◌, [], slice_index, replicate, arith}
use Rattle.std.proofs.lemmas.List.{length-replicate, get_or-replicate}
use Rattle.tariff.specs.Tables.{Holds, longest, table_size}

pub holds_none : Holds [] (replicate table_size 0)
holds_none = (length-replicate {A = ℕ} table_size 0, λ s l. get_or-replicate table_size s 0 0 l)

pub short_none : (s : ℕ) → s < table_size → slice_index (replicate table_size 0) s ≤ longest
short_none s l = omega (arith, holds_none.1 s l)
