-- A page that holds nothing yet.
use Rattle.std.proofs.Common.{◌≡◌, ℕ, ◌+◌, ◌*◌, ◌≤◌, List, ap, ◌∙◌, arith}
use Rattle.motion.specs.Demand.{figure_of}
use Rattle.motion.specs.State.{State, page_begun}
use Rattle.siding.specs.declared.page.Page.{Page}
use Rattle.siding.specs.Stands.{standing}

-- a siding on a page
abbrev on : ℕ → List ℕ → List ℕ → List ℕ → Page → State
on n inner wagons berths p = record {
  sections = n;
  inner = inner;
  wagons = wagons;
  berths = berths;
  head = p.head;
  moves = p.moves;
  away = p.away;
}

abbrev blank_page : ℕ → Page
blank_page figure = record { head = figure; moves = 0; away = 0 }

module _ (figure : ℕ) (p : Page) (begun : p ≡ blank_page figure) where
  pub begun_few : p.moves ≤ 500000
  begun_few = let e = ap (λ (k : Page). k.moves) begun in omega arith

  pub begun_balances : p.moves + figure ≡ p.head + 2 * p.away
  begun_balances =
      let m = ap (λ (k : Page). k.moves) begun in
      let h = ap (λ (k : Page). k.head) begun in
      let a = ap (λ (k : Page). k.away) begun in
      omega arith

  pub begun_page : (n : ℕ) (inner wagons berths : List ℕ) → figure ≡ figure_of n inner wagons berths → on n inner wagons berths p ≡ page_begun (standing n inner wagons berths)
  begun_page n inner wagons berths e = ap (on n inner wagons berths) begun ∙ ap (λ k. on n inner wagons berths (blank_page k)) e
