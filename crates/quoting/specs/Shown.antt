-- What is printed of an account.
use Rattle.std.specs.Prelude.{ℕ, List, ◌++◌, Some, Option, Ok, Err, Result, codes}
use Rattle.std.specs.Fmt.{◌++?◌}
use Rattle.refusal.specs.Number.{shown_of}
use Rattle.refusal.specs.declared.Refusal.{Refusal}
use Rattle.planning.specs.Shown as planning
use Rattle.quoting.specs.declared.account.Account.{Account}

-- the sum, as its type shows it, or the refusal
abbrev pub quote_shown : {S : Type 0} → (S → Option (List ℕ)) → Result S Refusal → Option (List ℕ)
quote_shown sum_shown (Ok sum) = sum_shown sum
quote_shown sum_shown (Err refusal) = Some (codes "no " ++ shown_of refusal)

abbrev pub account_shown : {S : Type 0} → (S → Option (List ℕ)) → Account S → Option (List ℕ)
account_shown sum_shown account =
    Some (planning.account_shown account.page) ++? (Some (codes " ") ++? quote_shown sum_shown account.quote)
