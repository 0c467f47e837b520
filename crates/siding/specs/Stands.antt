-- Where a siding of the program stands.
use Rattle.std.specs.Prelude.{ℕ, cond, List, Ok, Err, Result, nat_lt}
use Rattle.refusal.specs.declared.Refusal.{Refusal}
use Rattle.refusal.specs.declared.Refusal.TheVariants.{NoSection}
use Rattle.motion.specs.State.{State}
use Rattle.siding.specs.declared.siding.Siding.{Siding}
use Rattle.siding.specs.declared.track.Track.{Track}

abbrev pub state_of : Siding → State
state_of x = record {
  sections = x.track.sections;
  inner = x.track.inner;
  wagons = x.wagons.in_section;
  berths = x.berths.in_section;
  head = x.page.head;
  moves = x.page.moves;
  away = x.page.away;
}

-- the siding of a tree, with wagons and berths, on a page that holds nothing yet
abbrev pub standing : ℕ → List ℕ → List ℕ → List ℕ → State
standing n inner wagons berths =
    record { sections = n; inner = inner; wagons = wagons; berths = berths; head = 0; moves = 0; away = 0 }

-- the same of a track
abbrev pub on_track : {V : Type 0} → Track → ℕ → V → Result V Refusal
on_track t s value = cond (nat_lt s t.sections) (Ok value) (Err (NoSection s))

-- a reading of a section: the value, or the refusal that there is no such section
abbrev pub reading : {V : Type 0} → Siding → ℕ → V → Result V Refusal
reading x s value = on_track x.track s value
