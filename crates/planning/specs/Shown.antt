-- What is printed of an account.
use Rattle.std.specs.Prelude.{ℕ, List, ◌++◌, codes, decimal}
use Rattle.planning.specs.declared.account.Account.{Account}

abbrev pub account_shown : Account → List ℕ
account_shown account =
    decimal account.figure
    ++ (codes " " ++ (decimal account.head ++ (codes " " ++ (decimal account.moves ++ (codes " " ++ decimal account.away)))))
