-- A siding written into a buffer, part by part.
use Rattle.std.proofs.Common.{◌≡◌, ℕ, ◌+◌, ◌*◌, ◌≤◌, List, ◌++◌, map, length, get_or, take, Ok, sym, refl, ap, ◌∙◌, arith}
use Rattle.std.specs.List.{range_with_len, flat_map}
use Rattle.motion.specs.Tree.{total}
use Rattle.motion.specs.State.{State, page_begun}
use Rattle.siding.specs.declared.siding.Siding.{Siding}
use Rattle.siding.specs.Sheet.{drawn, two_bytes, mark, sheet_of, overwritten}
use Rattle.siding.specs.Stands.{state_of}
use Rattle.siding.proofs.Held.{held_tree, one_wagon, one_berth}
use Rattle.siding.proofs.Overwritten.{overwritten_after, take_overwritten}
use Rattle.siding.proofs.Pairs.{pairs, length_pairs}
use Rattle.siding.proofs.RoundTrip.{WrittenOut, written_drawn, sheet_length}

-- what a siding keeps is what its sheet needs
pub writable : (x : Siding) → WrittenOut (state_of x)
writable x = record {
  some = x.track.some;
  most = x.track.most;
  tree = held_tree x;
  one_wagon = one_wagon x;
  one_berth = one_berth x;
  long_inner = x.track.long.0;
  long_wagons = x.wagons.long;
  long_berths = x.berths.long;
  clear_inner = x.track.clear;
  clear_wagons = x.clear.0;
  clear_berths = x.clear.1;
}

module _ (x : State) (old one two three four : List ℕ) (room : 4 + 3 * x.sections ≤ length old)
    (first : one ≡ overwritten old 0 (two_bytes x.sections))
    (second : two ≡ overwritten one 2 (two_bytes (total x.sections x.wagons)))
    (third : three ≡ overwritten two 4 (flat_map (λ s. two_bytes (get_or x.inner s 0)) (range_with_len 0 x.sections)))
    (fourth : four ≡ overwritten three (4 + 2 * x.sections) (map (mark x) (range_with_len 0 x.sections))) where
  head : List ℕ
  head = two_bytes x.sections ++ two_bytes (total x.sections x.wagons)

  entries : List ℕ
  entries = pairs (λ s. get_or x.inner s 0) 0 x.sections

  with_head : two ≡ overwritten old 0 head
  unfolding head
  with_head = second ∙ ap (λ b. overwritten b 2 (two_bytes (total x.sections x.wagons))) first
      ∙ overwritten_after old 0 (two_bytes x.sections) (two_bytes (total x.sections x.wagons)) 2 refl (omega arith)

  length_front : length (head ++ entries) ≡ 4 + 2 * x.sections
  unfolding head entries
  length_front = let long = length_pairs (λ s. get_or x.inner s 0) 0 x.sections in omega arith

  with_entries : three ≡ overwritten old 0 (head ++ entries)
  unfolding head entries pairs
  with_entries = third ∙ ap (λ b. overwritten b 4 entries) with_head ∙ overwritten_after old 0 head entries 4 refl (omega arith)

  pub written_out : four ≡ overwritten old 0 (sheet_of x)
  unfolding head entries pairs sheet_of
  written_out =
      fourth ∙ ap (λ b. overwritten b (4 + 2 * x.sections) (map (mark x) (range_with_len 0 x.sections))) with_entries
      ∙ overwritten_after old 0 (head ++ entries) (map (mark x) (range_with_len 0 x.sections)) (4 + 2 * x.sections) (omega (arith, length_front)) (omega (arith, length_front))

-- what was written can be drawn up again
pub read_back : (x : Siding) (old new : List ℕ) (size : ℕ) → size ≡ 4 + 3 * x.track.sections → new ≡ overwritten old 0 (sheet_of (state_of x)) → drawn (take size new) ≡ Ok (page_begun (state_of x))
read_back x old new size long e =
    let whole : take size new ≡ sheet_of (state_of x) =
    ap (take size) e ∙ ap (λ k. take k (overwritten old 0 (sheet_of (state_of x)))) (long ∙ sym (sheet_length (state_of x))) ∙ take_overwritten old (sheet_of (state_of x)) in
    ap drawn whole ∙ written_drawn (state_of x) (writable x)
