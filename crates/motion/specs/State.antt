-- Where a siding stands: its tree, its wagons and berths, and its page.
use Rattle.std.specs.Prelude.{◌≡◌, ℕ, ◌+◌, ◌*◌, List}
use Rattle.motion.specs.Tree.{total}
use Rattle.motion.specs.Demand.{figure_of}

-- a page: the figure when it was begun (its head), the moves on it, and how many of them went away,
-- that is, left the figure greater than before
pub record State : Type 0 where
  pub sections : ℕ
  pub inner : List ℕ
  pub wagons : List ℕ
  pub berths : List ℕ
  pub head : ℕ
  pub moves : ℕ
  pub away : ℕ

abbrev pub figure : State → ℕ
figure x = figure_of x.sections x.inner x.wagons x.berths

-- the same siding with other wagons, or other berths
abbrev pub with_wagons : State → List ℕ → State
with_wagons x wagons = record {
  sections = x.sections;
  inner = x.inner;
  wagons = wagons;
  berths = x.berths;
  head = x.head;
  moves = x.moves;
  away = x.away;
}

abbrev pub with_berths : State → List ℕ → State
with_berths x berths = record {
  sections = x.sections;
  inner = x.inner;
  wagons = x.wagons;
  berths = berths;
  head = x.head;
  moves = x.moves;
  away = x.away;
}

-- the most moves of a page
abbrev pub most_moves : ℕ
most_moves = 500000

-- a page is begun: its head is the figure of that moment
abbrev pub page_begun : State → State
page_begun x = record {
  sections = x.sections;
  inner = x.inner;
  wagons = x.wagons;
  berths = x.berths;
  head = figure x;
  moves = 0;
  away = 0;
}

-- as many wagons as berths
abbrev pub EqualNumbers : State → Type 0
EqualNumbers x = total x.sections x.wagons ≡ total x.sections x.berths

-- the law of the page
abbrev pub Balances : State → Type 0
Balances x = x.moves + figure x ≡ x.head + 2 * x.away
