-- The sheet of a siding: written and drawn up again, and drawn up and written again.
use Rattle.std.proofs.Common.{◌≡◌, ℕ, zero, suc, ◌+◌, ◌-◌, ◌*◌, ◌/◌, ◌%◌, ◌<◌, ◌≤◌, Bool, true, false, cond, not, ◌||◌, eqb, ltb, leb, List, ◌++◌, map, length, get_or, Some, None, Ok, Err, Option, Result, sym, refl, ap, ◌∙◌, ⊎_elim, arith}
use Rattle.std.specs.List.{range_with_len}
use Rattle.std.proofs.lemmas.List.{ext_get_or, length-append, get_or-append-add, get_or_append_left}
use Rattle.std.proofs.lemmas.List.FromFn.{length-map-range_with_len, get_or-map-range_with_len}
use Rattle.std.proofs.lemmas.Bool.{cases_eq, cases_lt, le-ltb, ltb-false, eq-eqb, ne_eqb, eqb-true, or_from, or_parts, not_from_true, not-false}
use Rattle.std.proofs.lemmas.Bool.Decides.{nat_tests}
use Rattle.refusal.specs.declared.Refusal.{Refusal}
use Rattle.refusal.specs.declared.Refusal.TheVariants.{SheetLength, SizeOutOfRange, InnerNotLower, MarkTooLarge, WagonsMiscounted}
use Rattle.motion.specs.Tree.{Tree, total}
use Rattle.motion.specs.Demand.{Single}
use Rattle.motion.specs.State.{State, page_begun}
use Rattle.siding.specs.Sheet.{sheet_size, sections_of, wagons_stated, inner_of, mark_of, inner_at_fault, mark_at_fault, lowest, slots, described, unless_at_fault, drawn, two_bytes, mark, sheet_of}
use Rattle.siding.specs.Kept.{Clear}
use Rattle.siding.proofs.Slots.{slots_in, slots_same, slots_is}
use Rattle.siding.proofs.LowestFault.{clean_lowest}
use Rattle.siding.proofs.Pairs.{pairs, length_pairs, pairs_high, pairs_low}

-- the sheet of a siding, byte by byte
module _ (x : State) where
  front : List ℕ
  front = two_bytes x.sections ++ two_bytes (total x.sections x.wagons)

  entries : List ℕ
  entries = pairs (λ s. get_or x.inner s 0) 0 x.sections

  marks : List ℕ
  marks = map (mark x) (range_with_len 0 x.sections)

  in_parts : sheet_of x ≡ front ++ (entries ++ marks)
  unfolding sheet_of front entries pairs marks
  in_parts = refl

  length_entries : length entries ≡ 2 * x.sections
  unfolding entries
  length_entries = length_pairs (λ s. get_or x.inner s 0) 0 x.sections

  pub sheet_length : length (sheet_of x) ≡ 4 + 3 * x.sections
  unfolding front marks
  sheet_length =
      let both = length-append entries marks in
      let two = length_entries in
      let one = length-map-range_with_len (mark x) 0 x.sections in
      ap length in_parts ∙ omega arith

  at_0 : get_or (sheet_of x) 0 0 ≡ x.sections / 256
  unfolding sheet_of
  at_0 = refl

  at_1 : get_or (sheet_of x) 1 0 ≡ x.sections % 256
  unfolding sheet_of
  at_1 = refl

  at_2 : get_or (sheet_of x) 2 0 ≡ total x.sections x.wagons / 256
  unfolding sheet_of
  at_2 = refl

  at_3 : get_or (sheet_of x) 3 0 ≡ total x.sections x.wagons % 256
  unfolding sheet_of
  at_3 = refl

  past_front : (k : ℕ) → get_or (sheet_of x) (4 + k) 0 ≡ get_or (entries ++ marks) k 0
  unfolding front
  past_front k = rw in_parts (get_or-append-add front (entries ++ marks) k 0)

  at_entry : (k : ℕ) → k < 2 * x.sections → get_or (sheet_of x) (4 + k) 0 ≡ get_or entries k 0
  at_entry k l = past_front k ∙ get_or_append_left entries marks 0 k (omega (arith, length_entries))

  at_high : (s : ℕ) → s < x.sections → get_or (sheet_of x) (4 + 2 * s) 0 ≡ get_or x.inner s 0 / 256
  unfolding entries
  at_high s l = at_entry (2 * s) (omega arith) ∙ pairs_high (λ t. get_or x.inner t 0) 0 x.sections s s l (omega arith)

  at_low : (s : ℕ) → s < x.sections → get_or (sheet_of x) (4 + 2 * s + 1) 0 ≡ get_or x.inner s 0 % 256
  unfolding entries
  at_low s l =
      let e : 4 + 2 * s + 1 ≡ 4 + (2 * s + 1) = omega arith in
      ap (λ k. get_or (sheet_of x) k 0) e
      ∙ at_entry (2 * s + 1) (omega arith)
      ∙ pairs_low (λ t. get_or x.inner t 0) 0 x.sections s s l (omega arith)

  at_mark : (s : ℕ) → s < x.sections → get_or (sheet_of x) (4 + 2 * x.sections + s) 0 ≡ mark x s
  unfolding marks
  at_mark s l =
      let e : 4 + 2 * x.sections + s ≡ 4 + (length entries + s) = omega (arith, length_entries) in
      ap (λ k. get_or (sheet_of x) k 0) e
      ∙ past_front (length entries + s)
      ∙ get_or-append-add entries marks s 0
      ∙ get_or-map-range_with_len (mark x) 0 x.sections s s 0 l (omega arith)

  -- the numbers that drawing up reads from it
  reads_sections : sections_of (sheet_of x) ≡ x.sections
  reads_sections = omega (arith, at_0, at_1)

  reads_wagons : wagons_stated (sheet_of x) ≡ total x.sections x.wagons
  reads_wagons = omega (arith, at_2, at_3)

  reads_inner : (s : ℕ) → s < x.sections → inner_of (sheet_of x) s ≡ get_or x.inner s 0
  reads_inner s l = omega (arith, at_high s l, at_low s l)

  reads_mark : (s : ℕ) → s < x.sections → mark_of (sheet_of x) s ≡ mark x s
  reads_mark s l = ap (λ n. get_or (sheet_of x) (4 + 2 * n + s) 0) reads_sections ∙ at_mark s l

-- the tests of drawing up, one after another: a sheet is accepted where none of them refuses it
abbrev judged : Bool → Bool → Bool → Option ℕ → Option ℕ → Bool → State → Result State Refusal
judged short size other inner marks count y =
    cond short (Err SheetLength)
    (cond size (Err SizeOutOfRange)
    (cond other (Err SheetLength)
    (unless_at_fault inner InnerNotLower
    (unless_at_fault marks MarkTooLarge
    (cond count (Ok y) (Err WagonsMiscounted))))))

record Passed (short size other : Bool) (inner marks : Option ℕ) (count : Bool) : Type 0 where
  enough : short ≡ false
  in_range : size ≡ false
  exact : other ≡ false
  no_inner : inner ≡ None
  no_mark : marks ≡ None
  counted : count ≡ true

passed_judged : (short size other : Bool) (inner marks : Option ℕ) (count : Bool) (y : State) → Passed short size other inner marks count → judged short size other inner marks count y ≡ Ok y
passed_judged short size other inner marks count y p =
    let e : judged short size other inner marks count y ≡ judged false false false None None true y = cc in e

not_both : (why : Refusal) (x : State) → Err why ≡ Ok x → ⊥
not_both why x e = let z : ◌≡◌ {A = ℕ} 0 1 = cc in omega arith

judged_passed : (short size other : Bool) (inner marks : Option ℕ) (count : Bool) (y x : State) → judged short size other inner marks count y ≡ Ok x → Passed short size other inner marks count × (y ≡ x)
judged_passed true size other inner marks count y x e = absurd (not_both _ x e)
judged_passed false true other inner marks count y x e = absurd (not_both _ x e)
judged_passed false false true inner marks count y x e = absurd (not_both _ x e)
judged_passed false false false (Some s) marks count y x e = absurd (not_both _ x e)
judged_passed false false false None (Some s) count y x e = absurd (not_both _ x e)
judged_passed false false false None None false y x e = absurd (not_both _ x e)
judged_passed false false false None None true y x e =
    (record { enough = refl; in_range = refl; exact = refl; no_inner = refl; no_mark = refl; counted = refl }, cc)

abbrev Accepted : List ℕ → Type 0
Accepted bytes =
    Passed
    (ltb (length bytes) 4)
    (eqb (sections_of bytes) 0 || ltb 512 (sections_of bytes))
    (not (eqb (length bytes) (sheet_size (sections_of bytes))))
    (lowest (inner_at_fault bytes) (sections_of bytes))
    (lowest (mark_at_fault bytes) (sections_of bytes))
    (eqb (wagons_stated bytes) (total (sections_of bytes) (described bytes).wagons))

accepted_drawn : (bytes : List ℕ) → Accepted bytes → drawn bytes ≡ Ok (described bytes)
unfolding drawn
accepted_drawn bytes ok = passed_judged _ _ _ _ _ _ (described bytes) ok

drawn_accepted : (bytes : List ℕ) (x : State) → drawn bytes ≡ Ok x → Accepted bytes × (described bytes ≡ x)
unfolding drawn
drawn_accepted bytes x e = judged_passed _ _ _ _ _ _ (described bytes) x e

-- everything that a siding keeps, and its sheet needs
pub record WrittenOut (x : State) : Type 0 where
  pub some : 1 ≤ x.sections
  pub most : x.sections ≤ 512
  pub tree : Tree x.sections x.inner
  pub one_wagon : Single x.sections x.wagons
  pub one_berth : Single x.sections x.berths
  pub long_inner : length x.inner ≡ 512
  pub long_wagons : length x.wagons ≡ 512
  pub long_berths : length x.berths ≡ 512
  pub clear_inner : Clear x.sections x.inner
  pub clear_wagons : Clear x.sections x.wagons
  pub clear_berths : Clear x.sections x.berths

-- an entry that is lower than its section, or 0 at the neck, is not at fault
no_fault : (s v : ℕ) → (s ≡ 0 → v ≡ 0) → (0 < s → v < s) → cond (eqb s 0) (not (eqb v 0)) (leb s v) ≡ false
no_fault s v neck lower =
    ⊎_elim
    (λ (e : s ≡ 0). let z = neck e in grind (arith, nat_tests))
    (λ (ne : s ≡ 0 → ⊥). let z : v < s = lower (omega arith) in grind (arith, nat_tests))
    (cases_eq s 0)

-- an array is drawn up again from numbers that are its entries
array_again : (m n : ℕ) (f : ℕ → ℕ) (xs : List ℕ) → m ≡ n → n ≤ 512 → length xs ≡ 512 → Clear n xs → ((s : ℕ) → s < n → f s ≡ get_or xs s 0) → slots m f ≡ xs
array_again m n f xs e most long clear same =
    ap (λ k. slots k f) e ∙ slots_same n f (λ s. get_or xs s 0) same ∙ sym (slots_is n xs most long clear)

-- a siding with a page just begun hangs on these alone
begun : ℕ → List ℕ → List ℕ → List ℕ → State
begun n inner wagons berths =
    page_begun (record { sections = n; inner = inner; wagons = wagons; berths = berths; head = 0; moves = 0; away = 0 })

same_begun : (m n : ℕ) (i j v w b c : List ℕ) → m ≡ n → i ≡ j → v ≡ w → b ≡ c → begun m i v b ≡ begun n j w c
same_begun m n i j v w b c p q r s = cc

module _ (x : State) (out : WrittenOut x) where
  -- a mark tells the wagon from the berth
  mark_tells : (s : ℕ) → s < x.sections → (mark_of (sheet_of x) s ≤ 3) × (mark_of (sheet_of x) s % 2 ≡ get_or x.wagons s 0) × (mark_of (sheet_of x) s / 2 ≡ get_or x.berths s 0)
  mark_tells s l =
      let e = reads_mark x s l in
      let w = out.one_wagon s l in
      let b = out.one_berth s l in
      (omega arith, omega arith, omega arith)

  inner_again : (described (sheet_of x)).inner ≡ x.inner
  inner_again =
      array_again _ x.sections (inner_of (sheet_of x)) x.inner (reads_sections x) out.most out.long_inner out.clear_inner
      (reads_inner x)

  wagons_again : (described (sheet_of x)).wagons ≡ x.wagons
  wagons_again =
      array_again _ x.sections (λ s. mark_of (sheet_of x) s % 2) x.wagons (reads_sections x) out.most out.long_wagons out.clear_wagons
      (λ s l. (mark_tells s l).1)

  berths_again : (described (sheet_of x)).berths ≡ x.berths
  berths_again =
      array_again _ x.sections (λ s. mark_of (sheet_of x) s / 2) x.berths (reads_sections x) out.most out.long_berths out.clear_berths
      (λ s l. (mark_tells s l).2)

  described_again : described (sheet_of x) ≡ page_begun x
  unfolding begun
  described_again = same_begun _ x.sections _ x.inner _ x.wagons _ x.berths (reads_sections x) inner_again wagons_again berths_again

  accepted : Accepted (sheet_of x)
  accepted =
      let bytes : List ℕ = sheet_of x in
      let n = reads_sections x in
      let long = sheet_length x in
      record {
        enough = le-ltb (length bytes) 4 (omega arith);
        in_range = or_from _ _ (ne_eqb (sections_of bytes) 0 (omega (arith, out.some))) (le-ltb 512 (sections_of bytes) (omega (arith, out.most)));
        exact = not_from_true _ (eq-eqb (length bytes) (sheet_size (sections_of bytes)) (long ∙ ap sheet_size (sym n)));
        no_inner = clean_lowest (inner_at_fault bytes) (sections_of bytes) (λ s l.
            let m : s < x.sections = omega arith in
            let e = reads_inner x s m in
            no_fault s (inner_of bytes s)
            (λ z. e ∙ ap (λ t. get_or x.inner t 0) z ∙ out.tree.neck)
            (λ p. omega (arith, out.tree.lower s p m)));
        no_mark = clean_lowest (mark_at_fault bytes) (sections_of bytes) (λ s l. le-ltb 3 (mark_of bytes s) (mark_tells s (omega arith)).0);
        counted = eq-eqb (wagons_stated bytes) (total (sections_of bytes) (described bytes).wagons)
            (reads_wagons x ∙ ap (total x.sections) (sym wagons_again) ∙ ap (λ k. total k (described bytes).wagons) (sym n));
      }

-- a siding that is written and drawn up again is the same siding with a fresh page
pub written_drawn : (x : State) → WrittenOut x → drawn (sheet_of x) ≡ Ok (page_begun x)
written_drawn x out = accepted_drawn (sheet_of x) (accepted x out) ∙ ap Ok (described_again x out)

module _ (bytes : List ℕ) (small : (k : ℕ) → get_or bytes k 0 < 256) (ok : Accepted bytes) where
  most : sections_of bytes ≤ 512
  most = ltb-false 512 (sections_of bytes) (or_parts _ _ ok.in_range).1

  exactly : length bytes ≡ sheet_size (sections_of bytes)
  exactly = eqb-true (length bytes) (sheet_size (sections_of bytes)) (not-false _ ok.exact)

  count : wagons_stated bytes ≡ total (sections_of bytes) (described bytes).wagons
  count = eqb-true (wagons_stated bytes) (total (sections_of bytes) (described bytes).wagons) ok.counted

  -- each byte is written again
  abbrev Again : ℕ → Type 0
  Again k = get_or (sheet_of (described bytes)) k 0 ≡ get_or bytes k 0

  front_again : (k : ℕ) → k < 4 → Again k
  front_again zero l = at_0 (described bytes) ∙ omega (arith, small 1)
  front_again (suc zero) l = at_1 (described bytes) ∙ omega (arith, small 1)
  front_again (suc (suc zero)) l = at_2 (described bytes) ∙ omega (arith, count, small 3)
  front_again (suc (suc (suc zero))) l = at_3 (described bytes) ∙ omega (arith, count, small 3)
  front_again (suc (suc (suc (suc k)))) l = let z : ⊥ = omega arith in absurd z

  high_again : (s : ℕ) → s < sections_of bytes → Again (4 + 2 * s)
  high_again s l =
      let e = slots_in (sections_of bytes) (inner_of bytes) s most l in
      at_high (described bytes) s l ∙ omega (arith, small (4 + 2 * s + 1))

  low_again : (s : ℕ) → s < sections_of bytes → Again (4 + 2 * s + 1)
  low_again s l =
      let e = slots_in (sections_of bytes) (inner_of bytes) s most l in
      at_low (described bytes) s l ∙ omega (arith, small (4 + 2 * s + 1))

  mark_again : (s : ℕ) → s < sections_of bytes → Again (4 + 2 * sections_of bytes + s)
  mark_again s l =
      let w = slots_in (sections_of bytes) (λ t. mark_of bytes t % 2) s most l in
      let b = slots_in (sections_of bytes) (λ t. mark_of bytes t / 2) s most l in
      at_mark (described bytes) s l ∙ omega arith

  byte_again : (k : ℕ) → k < sheet_size (sections_of bytes) → Again k
  byte_again k l =
      ⊎_elim
      (λ (a : k < 4). front_again k a)
      (λ (a : 4 ≤ k).
      ⊎_elim
      (λ (b : k < 4 + 2 * sections_of bytes).
      let s : ℕ = (k - 4) / 2 in
      ⊎_elim
      (λ (e : k ≡ 4 + 2 * s). rw e (high_again s (omega arith)))
      (λ (ne : k ≡ 4 + 2 * s → ⊥). let e : k ≡ 4 + 2 * s + 1 = omega arith in rw e (low_again s (omega arith)))
      (cases_eq k (4 + 2 * s)))
      (λ (b : 4 + 2 * sections_of bytes ≤ k).
      let s : ℕ = k - (4 + 2 * sections_of bytes) in
      let e : k ≡ 4 + 2 * sections_of bytes + s = omega arith in
      rw e (mark_again s (omega arith)))
      (cases_lt k (4 + 2 * sections_of bytes)))
      (cases_lt k 4)

  described_written : sheet_of (described bytes) ≡ bytes
  described_written =
      let long = sheet_length (described bytes) in
      ext_get_or 0 (sheet_of (described bytes)) bytes (long ∙ sym exactly) (λ k l. byte_again k (omega arith))

-- a sheet that is accepted and then written gives the same bytes
pub drawn_written : (bytes : List ℕ) → ((k : ℕ) → get_or bytes k 0 < 256) → (x : State) → drawn bytes ≡ Ok x → sheet_of x ≡ bytes
drawn_written bytes small x e =
    let p = drawn_accepted bytes x e in
    ap sheet_of (sym p.1) ∙ described_written bytes small p.0
