-- A standing numbered byte after byte.
use Rattle.std.proofs.Common.{◌≡◌, ℕ, ◌+◌, ◌^◌, ◌<◌, ◌≤◌, false, List, [], ◌∷◌, length, get_or, drop, Ok, Err, arith}
use Rattle.std.proofs.lemmas.List.{drop_more, drop_all}
use Rattle.refusal.specs.declared.Refusal.TheVariants.{MarkTooLarge}
use Rattle.standing.specs.Choose.{choose}
use Rattle.standing.specs.Number.{wagon_sections, sum_from, fault_from, out_of_range, number_of}
use Rattle.standing.proofs.Counts.{none_of_none, sum_of_two, grows, neighbours_fit}
use Rattle.standing.proofs.Steps.{ComesTo, after_empty, after_wagon, nothing_more, no_fault, fault_here, fault_later}

-- the bytes of s below section c, none at fault, have k wagons whose part of the number is x
pub record CountedTo (s : List ℕ) (c k x : ℕ) : Type 0 where
  pub sized : out_of_range (length s) ≡ false
  pub few : k ≤ c
  pub fits : x < choose c k
  pub fault : fault_from c (drop c s) ≡ fault_from 0 s
  pub comes_to : ComesTo c k x (drop c s) (length (wagon_sections s)) (sum_from 1 (wagon_sections s))

pub counted_none : (s : List ℕ) → out_of_range (length s) ≡ false → CountedTo s 0 0 0
counted_none s h = grind (arith, none_of_none)

module _ (s : List ℕ) (c k x : ℕ) (before : CountedTo s c k x) where
  module _ (more : c < length s) where
    pub number_fits : x + choose c (k + 1) < 2 ^ 64
    number_fits = grind (arith, neighbours_fit)

    bytes : (b : ℕ) → get_or s c 0 ≡ b → drop c s ≡ b ∷ drop (c + 1) s
    bytes b e = grind (arith, drop_more)

    later : (b : ℕ) → get_or s c 0 ≡ b → b ≤ 1 → fault_from (c + 1) (drop (c + 1) s) ≡ fault_from 0 s
    later b e h = grind (arith, fault_later, bytes)

    pub counted_empty : get_or s c 0 ≡ 0 → CountedTo s (c + 1) k x
    counted_empty e = search (arith, grows c k, later, after_empty (rw (bytes 0 e) at before.comes_to))

    pub counted_wagon : get_or s c 0 ≡ 1 → CountedTo s (c + 1) (k + 1) (x + choose c (k + 1))
    counted_wagon e = search (arith, sum_of_two c k, later, after_wagon (rw (bytes 1 e) at before.comes_to))

    pub counted_fault : 1 < get_or s c 0 → Err (MarkTooLarge c) ≡ number_of s
    counted_fault h = grind (arith, drop_more, fault_here)

  pub counted_all : length s ≤ c → Ok (record { wagons = k; number = x }) ≡ number_of s
  counted_all h = let d : drop c s ≡ [] = drop_all c s h in let e = nothing_more (rw d at before.comes_to) in grind (arith, no_fault)
