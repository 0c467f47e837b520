-- What a list holds, and what adding an entry does.
use Rattle.std.specs.Prelude.{◌≡◌, ◌+◌, ◌<◌, List, length, take, Ok, Err, Result, slice_set}
use Rattle.refusal.specs.declared.Refusal.{Refusal}
use Rattle.refusal.specs.declared.Refusal.TheVariants.{OutOfRoom}
use Rattle.lists.specs.declared.list.List.{List as Slots}

-- the entries: the front of the slice
abbrev pub held : {X : Type 0} → Slots X → List X
held l = take l.len l.slots.now

-- a list fills the slice that it filled before
abbrev pub SameSlice : {X : Type 0} → Slots X → Slots X → Type 0
SameSlice before after = after.slots.ghost_name ≡ before.slots.ghost_name

-- the first free slot has the entry, and all others are as they were; or there is none, and nothing has changed
abbrev pub Added : {X U : Type 0} → X → Slots X → Slots X → Result U Refusal → Type 0
Added x before after (Ok u) =
    (before.len < length before.slots.now) × (after.len ≡ before.len + 1) × (after.slots.now ≡ slice_set before.slots.now before.len x)
Added x before after (Err e) = (before.len ≡ length before.slots.now) × (e ≡ OutOfRoom) × (after ≡ before)
