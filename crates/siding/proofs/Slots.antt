-- The 512 slots of an array of a siding: an entry for each section, and then 0.
use Rattle.std.proofs.Common.{◌≡◌, ℕ, ◌<◌, ◌≤◌, cond, ltb, List, length, get_or, sym, ap, ◌∙◌, ⊎_elim, arith}
use Rattle.std.proofs.lemmas.List.{get_or_past}
use Rattle.std.proofs.lemmas.List.FromFn.{length-map-range_with_len, get_or-map-range_with_len, fill_by_all}
use Rattle.std.proofs.lemmas.Bool.{cases_lt, cond-true, cond-false, lt-ltb, le-ltb}
use Rattle.siding.specs.Sheet.{slots}
use Rattle.siding.specs.Kept.{Clear}

-- what stands in a slot
entry_at : ℕ → (ℕ → ℕ) → ℕ → ℕ
entry_at n f s = cond (ltb s n) (f s) 0

entry_in : (n : ℕ) (f : ℕ → ℕ) (s : ℕ) → s < n → entry_at n f s ≡ f s
unfolding entry_at
entry_in n f s l = cond-true (ltb s n) (f s) 0 (lt-ltb s n l)

entry_past : (n : ℕ) (f : ℕ → ℕ) (s : ℕ) → n ≤ s → entry_at n f s ≡ 0
unfolding entry_at
entry_past n f s l = cond-false (ltb s n) (f s) 0 (le-ltb s n l)

-- a list of 512 entries that has in each slot what stands there
all_slots : (n : ℕ) (f : ℕ → ℕ) (xs : List ℕ) → length xs ≡ 512 → ((s : ℕ) → s < 512 → get_or xs s 0 ≡ entry_at n f s) → xs ≡ slots n f
unfolding slots entry_at
all_slots n f xs long each = fill_by_all (entry_at n f) xs 512 0 long each

pub length_slots : (n : ℕ) (f : ℕ → ℕ) → length (slots n f) ≡ 512
unfolding slots entry_at
length_slots n f = length-map-range_with_len (entry_at n f) 0 512

slot_is : (n : ℕ) (f : ℕ → ℕ) (s : ℕ) → s < 512 → get_or (slots n f) s 0 ≡ entry_at n f s
unfolding slots entry_at
slot_is n f s l = get_or-map-range_with_len (entry_at n f) 0 512 s s 0 l (omega arith)

-- the slot of a section
pub slots_in : (n : ℕ) (f : ℕ → ℕ) (s : ℕ) → n ≤ 512 → s < n → get_or (slots n f) s 0 ≡ f s
slots_in n f s most l = slot_is n f s (omega arith) ∙ entry_in n f s l

-- past the sections
pub slots_past : (n : ℕ) (f : ℕ → ℕ) (s : ℕ) → n ≤ 512 → n ≤ s → get_or (slots n f) s 0 ≡ 0
slots_past n f s most l =
    ⊎_elim
    (λ (k : s < 512). slot_is n f s k ∙ entry_past n f s l)
    (λ (k : 512 ≤ s). get_or_past (slots n f) s 0 (omega (arith, length_slots n f)))
    (cases_lt s 512)

-- an array made slot by slot, by what stands in each
pub slots_made : (n : ℕ) (f : ℕ → ℕ) (xs : List ℕ) → length xs ≡ 512 → ((s : ℕ) → s < 512 → (s < n → get_or xs s 0 ≡ f s) × (n ≤ s → get_or xs s 0 ≡ 0)) → xs ≡ slots n f
slots_made n f xs long each =
    all_slots n f xs long (λ s l.
    ⊎_elim
    (λ (low : s < n). (each s l).0 low ∙ sym (entry_in n f s low))
    (λ (high : n ≤ s). (each s l).1 high ∙ sym (entry_past n f s high))
    (cases_lt s n))

-- only the entries of the sections play a part
pub slots_same : (n : ℕ) (f g : ℕ → ℕ) → ((s : ℕ) → s < n → f s ≡ g s) → slots n f ≡ slots n g
slots_same n f g same =
    all_slots n g (slots n f) (length_slots n f) (λ s l.
    slot_is n f s l
    ∙ ⊎_elim
    (λ (low : s < n). entry_in n f s low ∙ same s low ∙ sym (entry_in n g s low))
    (λ (high : n ≤ s). entry_past n f s high ∙ sym (entry_past n g s high))
    (cases_lt s n))

-- an array that holds 0 past the sections has its own entries in its slots
pub slots_is : (n : ℕ) (xs : List ℕ) → n ≤ 512 → length xs ≡ 512 → Clear n xs → xs ≡ slots n (λ s. get_or xs s 0)
slots_is n xs most long clear =
    all_slots n (λ s. get_or xs s 0) xs long (λ s l.
    ⊎_elim
    (λ (low : s < n). sym (entry_in n (λ t. get_or xs t 0) s low))
    (λ (high : n ≤ s). clear s high ∙ sym (entry_past n (λ t. get_or xs t 0) s high))
    (cases_lt s n))

-- an array made of another, slot by slot; 0 stays 0
pub slots_mapped :
    (n : ℕ) (f g : ℕ → ℕ) (old new : List ℕ) → n ≤ 512 → g 0 ≡ 0 → old ≡ slots n f → length new ≡ 512
    → ((s : ℕ) → s < 512 → get_or new s 0 ≡ g (get_or old s 0))
    → new ≡ slots n (λ s. g (f s))
slots_mapped n f g old new most zero is long each =
    slots_made n (λ s. g (f s)) new long (λ s l.
    let slot : get_or new s 0 ≡ g (get_or (slots n f) s 0) = each s l ∙ ap (λ xs. g (get_or xs s 0)) is in
    (λ low. slot ∙ ap g (slots_in n f s most low), λ high. slot ∙ ap g (slots_past n f s most high) ∙ zero))
