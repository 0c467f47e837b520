-- The branches of a section are balanced one after another, and the moves of that are written.
use Rattle.std.proofs.Common.{◌≡◌, ℕ, ◌+◌, ◌-◌, ◌<◌, ◌≤◌, List, [], ◌∷◌, ◌++◌, ap, sym, ◌∙◌, arith}
use Rattle.std.specs.List.{range_with_len, filter}
use Rattle.std.proofs.lemmas.List.{append_assoc}
use Rattle.motion.specs.declared.moves.Move.{Move}
use Rattle.motion.specs.Tree.{Branch, is_branch}
use Rattle.motion.specs.Stepping.{Next, Task, Balancing, Even}
use Rattle.motion.proofs.Order.{branch_up}
use Rattle.motion.proofs.Went.{Went, Calm, Found, turns_went, tasks_went, calm_off, before_next, after_next, went_up}
use Rattle.siding.specs.declared.siding.Siding.{Siding}
use Rattle.siding.specs.Branches.{branches_past}
use Rattle.siding.proofs.Held.{held_tree}
use Rattle.lists.specs.declared.book.Book.{Book}
use Rattle.lists.specs.Writing.{Writer}
use Rattle.lists.specs.Balanced.{Made, TurnsAt, BalancingAt, HasRoom, SettledBefore}
use Rattle.lists.proofs.Ranges.{none_left, first_left, rest_left}
use Rattle.lists.proofs.Sought.{tested, passes}
use Rattle.lists.proofs.Writes.{wrote_none, made_both, room_left}

-- a row may be begun later, where it has no branch before
begun_later : {n : ℕ} {inner berths wagons end : List ℕ} {u from : ℕ} {ms : List Move} (to : ℕ) → from ≤ to → ((k : ℕ) → Branch n inner u k → to ≤ k)
    → Balancing n inner berths wagons (Task.row u from) ms end → Balancing n inner berths wagons (Task.row u to) ms end
begun_later to l all (Balancing.none none) = Balancing.none (λ k le b. none k (omega arith) b)
begun_later to l all (Balancing.next next one rest) =
    Balancing.next (record { branch = next.branch; ahead = all _ next.branch; lowest = λ k le lt b. next.lowest k (omega arith) lt b }) one rest

-- the row of u so far: these branches are left, all before them is settled, and with what is left it is the whole row
pub record Row {W E : Type 0} (writer : Writer W E) (x : Siding) (u : ℕ) (left : List ℕ) (start : List ℕ) (book : Book W E) (wagons : List ℕ) (book' : Book W E) : Type 0 where
  pub from : ℕ
  pub is_left : left ≡ branches_past x.track.sections x.track.inner u from
  pub before : SettledBefore x wagons u
  pub found : Found x.track.sections x.track.inner x.berths.in_section wagons u from
  pub made : Made writer (λ ms then. (ns : List Move) (end : List ℕ) → BalancingAt x then (Task.row u from) ns end → BalancingAt x start (Task.row u (u + 1)) (ms ++ ns) end) book wagons book'

module _ {W E : Type 0} (writer : Writer W E) (x : Siding) (u : ℕ) where
  -- it begins once u is settled
  module _ (l : u < x.track.sections) (start : List ℕ) (even : Even x.track.sections x.track.inner start x.berths.in_section) (before : SettledBefore x start u)
      {book book' : Book W E} {wagons : List ℕ} (settled : Made writer (TurnsAt x start u) book wagons book') where
    pub row_begins : (left : List ℕ) → left ≡ branches_past x.track.sections x.track.inner u 0 → Row writer x u left wagons book' wagons book'
    row_begins left is =
        let t = turns_went settled.does even l before in
        record {
          from = 0;
          is_left = is;
          before = calm_off (held_tree x) t.0.off before;
          found = record { settled = t.1; lower = λ k s b. absurd (omega arith) };
          made = record {
            moves = [];
            does = λ ns end rest. begun_later (u + 1) (omega arith) (λ k b. let up = branch_up x.track.sections x.track.inner (held_tree x) b in omega arith) rest;
            wrote = wrote_none writer book';
          };
        }

    pub settled_room : HasRoom x start book → HasRoom x wagons book'
    settled_room room = room_left writer x start wagons settled (turns_went settled.does even l before).0.fell room

    pub whole : {book'' : Book W E} {wagons' : List ℕ} (left : List ℕ) → left ≡ [] → Row writer x u left wagons book' wagons' book'' → Made writer (BalancingAt x start (Task.whole u)) book wagons' book''
    whole {book''} {wagons'} left past row =
        let none : (k : ℕ) → row.from ≤ k → Branch x.track.sections x.track.inner u k → ⊥ =
        λ k le b. none_left (is_branch x.track.inner u) row.from (x.track.sections - row.from) (sym row.is_left ∙ past) k (passes x.track.sections x.track.inner u row.from k b le) in
        let rest : Made writer (BalancingAt x wagons (Task.row u (u + 1))) book' wagons' book'' =
        made_both writer {Q = λ ms then. Unit {0}} {wagons' = wagons'} row.made (record { moves = []; does = tt; wrote = wrote_none writer book'' }) (row.made.does [] wagons' (Balancing.none none)) in
        made_both writer settled rest (Balancing.both settled.does rest.does)

  -- it goes on with a branch
  module _ (b : ℕ) (rest left : List ℕ) (some : left ≡ b ∷ rest) {start : List ℕ} {book book' : Book W E} {wagons : List ℕ} (row : Row writer x u left start book wagons book') where
    pub next : Next x.track.sections x.track.inner u row.from b
    next =
        let found = first_left (is_branch x.track.inner u) row.from (x.track.sections - row.from) b rest (sym row.is_left ∙ some) in
        record {
          branch = tested x.track.sections x.track.inner u b (omega (arith, found.is.from, found.is.within)) found.is.passes;
          ahead = found.is.from;
          lowest = λ k le lt br. found.lower k (passes x.track.sections x.track.inner u row.from k br le) lt;
        }

    pub branch_before : SettledBefore x wagons b
    branch_before = before_next next row.before row.found

    module _ (even : Even x.track.sections x.track.inner wagons x.berths.in_section) {book'' : Book W E} {wagons' : List ℕ} (balanced : Made writer (BalancingAt x wagons (Task.whole b)) book' wagons' book'') where
      went : Went x.track.sections x.track.inner x.berths.in_section wagons b balanced.moves wagons' × Calm x.track.sections x.track.inner x.berths.in_section wagons' b
      went = tasks_went balanced.does even next.branch.within branch_before tt

      pub row_goes_on : Row writer x u rest start book wagons' book''
      row_goes_on =
          let same : row.from + (x.track.sections - row.from) - (b + 1) ≡ x.track.sections - (b + 1) = omega (arith, next.ahead, next.branch.within) in
          record {
            from = b + 1;
            is_left = rest_left (is_branch x.track.inner u) row.from (x.track.sections - row.from) b rest (sym row.is_left ∙ some) ∙ ap (λ k. filter (is_branch x.track.inner u) (range_with_len (b + 1) k)) same;
            before = calm_off (held_tree x) (went_up next.branch went.0).off row.before;
            found = after_next (held_tree x) next row.found went.0.off went.1;
            made = made_both writer row.made balanced (λ ns end more. rw append_assoc (row.made.does (balanced.moves ++ ns) end (Balancing.next next balanced.does more)));
          }

      pub branch_room : HasRoom x wagons book' → HasRoom x wagons' book''
      branch_room room = room_left writer x wagons wagons' balanced went.0.fell room
