-- What drawing up makes of a sheet, case by case, and what a faultless sheet describes.
use Rattle.std.proofs.Common.{◌≡◌, ℕ, ◌+◌, ◌*◌, ◌/◌, ◌%◌, ◌<◌, ◌≤◌, true, false, cond, not, ◌||◌, eqb, ltb, leb, ◌⊎◌, List, length, get_or, Some, None, Ok, Err, Option, Result, sym, ap, ◌∙◌, ⊎_elim, arith}
use Rattle.std.proofs.lemmas.Bool.{cond-true, cond-false, lt-ltb, le-ltb, eq-eqb, ne_eqb, or_left, or_right, or_from, not_from_true, not_from_false, ltb-false, leb-false, eqb-true, not-false}
use Rattle.refusal.specs.declared.Refusal.{Refusal}
use Rattle.refusal.specs.declared.Refusal.TheVariants.{SheetLength, SizeOutOfRange, InnerNotLower, MarkTooLarge, WagonsMiscounted}
use Rattle.motion.specs.Tree.{Tree, total}
use Rattle.motion.specs.Demand.{Single}
use Rattle.motion.specs.State.{State}
use Rattle.siding.specs.Sheet.{sheet_size, sections_of, wagons_stated, inner_of, mark_of, inner_at_fault, mark_at_fault, lowest, slots, described, unless_at_fault, drawn, Sized, Faultless}
use Rattle.siding.proofs.Slots.{slots_in}
use Rattle.siding.proofs.LowestFault.{lowest_clean}

-- the tests in their order
module _ (bytes : List ℕ) where
  pub drawn_short : length bytes < 4 → drawn bytes ≡ Err SheetLength
  unfolding drawn
  drawn_short short = cond-true (ltb (length bytes) 4) _ _ (lt-ltb (length bytes) 4 short)

  abbrev marks_tested : Result State Refusal
  marks_tested =
      unless_at_fault (lowest (mark_at_fault bytes) (sections_of bytes)) MarkTooLarge
      (cond (eqb (wagons_stated bytes) (total (sections_of bytes) (described bytes).wagons))
      (Ok (described bytes))
      (Err WagonsMiscounted))

  abbrev length_tested : Result State Refusal
  length_tested =
      cond (not (eqb (length bytes) (sheet_size (sections_of bytes)))) (Err SheetLength)
      (unless_at_fault (lowest (inner_at_fault bytes) (sections_of bytes)) InnerNotLower marks_tested)

  module _ (long : 4 ≤ length bytes) where
    pub drawn_size : (sections_of bytes ≡ 0) ⊎ (512 < sections_of bytes) → drawn bytes ≡ Err SizeOutOfRange
    unfolding drawn
    drawn_size either =
        let out : (eqb (sections_of bytes) 0 || ltb 512 (sections_of bytes)) ≡ true =
        ⊎_elim
        (λ (z : sections_of bytes ≡ 0). or_left _ _ (eq-eqb (sections_of bytes) 0 z))
        (λ (l : 512 < sections_of bytes). or_right _ _ (lt-ltb 512 (sections_of bytes) l))
        either in
        cond-false (ltb (length bytes) 4) _ _ (le-ltb (length bytes) 4 long) ∙ cond-true _ _ _ out

    module _ (some : 1 ≤ sections_of bytes) (most : sections_of bytes ≤ 512) where
      drawn_to_length : drawn bytes ≡ length_tested
      unfolding drawn
      drawn_to_length =
          cond-false (ltb (length bytes) 4) _ _ (le-ltb (length bytes) 4 long)
          ∙ cond-false (eqb (sections_of bytes) 0 || ltb 512 (sections_of bytes)) _ _
          (or_from _ _ (ne_eqb (sections_of bytes) 0 (λ z. omega arith)) (le-ltb 512 (sections_of bytes) most))

      pub drawn_length : (length bytes ≡ sheet_size (sections_of bytes) → ⊥) → drawn bytes ≡ Err SheetLength
      drawn_length off =
          drawn_to_length ∙ cond-true (not (eqb (length bytes) (sheet_size (sections_of bytes)))) _ _
          (not_from_false _ (ne_eqb (length bytes) (sheet_size (sections_of bytes)) off))

-- where the mark of a section stands
pub mark_at : (bytes : List ℕ) (n s : ℕ) → Sized bytes n → get_or bytes (4 + 2 * n + s) 0 ≡ mark_of bytes s
mark_at bytes n s sized = ap (λ k. get_or bytes (4 + 2 * k + s) 0) sized.sections

module _ (bytes : List ℕ) (n : ℕ) (sized : Sized bytes n) where
  drawn_to_inner : drawn bytes ≡ unless_at_fault (lowest (inner_at_fault bytes) n) InnerNotLower (marks_tested bytes)
  drawn_to_inner =
      let e : n ≡ sections_of bytes = sized.sections in
      let size : length bytes ≡ sheet_size (sections_of bytes) = sized.size ∙ ap sheet_size e in
      drawn_to_length bytes (omega (arith, sized.size)) (omega (arith, sized.some)) (omega (arith, sized.most))
      ∙ cond-false (not (eqb (length bytes) (sheet_size (sections_of bytes)))) _ _ (not_from_true _ (eq-eqb (length bytes) _ size))
      ∙ ap (λ k. unless_at_fault (lowest (inner_at_fault bytes) k) InnerNotLower (marks_tested bytes)) (sym e)

  pub drawn_inner_fault : (s : ℕ) → lowest (inner_at_fault bytes) n ≡ Some s → drawn bytes ≡ Err (InnerNotLower s)
  drawn_inner_fault s found = drawn_to_inner ∙ ap (λ o. unless_at_fault o InnerNotLower (marks_tested bytes)) found

  drawn_to_marks : lowest (inner_at_fault bytes) n ≡ None → drawn bytes ≡ marks_tested bytes
  drawn_to_marks none = drawn_to_inner ∙ ap (λ o. unless_at_fault o InnerNotLower (marks_tested bytes)) none

  abbrev count_tested : Result State Refusal
  count_tested =
      cond (eqb (wagons_stated bytes) (total (sections_of bytes) (described bytes).wagons)) (Ok (described bytes)) (Err WagonsMiscounted)

  marks_at : (o : Option ℕ) → lowest (mark_at_fault bytes) n ≡ o → marks_tested bytes ≡ unless_at_fault o MarkTooLarge count_tested
  marks_at o found =
      ap (λ k. unless_at_fault (lowest (mark_at_fault bytes) k) MarkTooLarge count_tested) (sym sized.sections)
      ∙ ap (λ v. unless_at_fault v MarkTooLarge count_tested) found

  pub drawn_mark_fault : (s : ℕ) → lowest (inner_at_fault bytes) n ≡ None → lowest (mark_at_fault bytes) n ≡ Some s → drawn bytes ≡ Err (MarkTooLarge s)
  drawn_mark_fault s none found = drawn_to_marks none ∙ marks_at (Some s) found

module _ (bytes : List ℕ) (n : ℕ) (clean : Faultless bytes n) where
  drawn_to_count : drawn bytes ≡ count_tested bytes n clean.sized
  drawn_to_count = drawn_to_marks bytes n clean.sized clean.inner_right ∙ marks_at bytes n clean.sized None clean.marks_right

  -- the number of wagons that the marks have
  same_total : total n (slots n (λ s. mark_of bytes s % 2)) ≡ total (sections_of bytes) (described bytes).wagons
  same_total = ap (λ k. total k (slots k (λ s. mark_of bytes s % 2))) clean.sized.sections

  pub drawn_counted : wagons_stated bytes ≡ total n (slots n (λ s. mark_of bytes s % 2)) → drawn bytes ≡ Ok (described bytes)
  drawn_counted e = drawn_to_count ∙ cond-true _ _ _ (eq-eqb (wagons_stated bytes) _ (e ∙ same_total))

  pub drawn_miscounted : (wagons_stated bytes ≡ total n (slots n (λ s. mark_of bytes s % 2)) → ⊥) → drawn bytes ≡ Err WagonsMiscounted
  drawn_miscounted ne = drawn_to_count ∙ cond-false _ _ _ (ne_eqb (wagons_stated bytes) _ (λ e. ne (e ∙ sym same_total)))

  inner_fine : (s : ℕ) → s < n → inner_at_fault bytes s ≡ false
  inner_fine s l = lowest_clean (inner_at_fault bytes) n clean.inner_right s l

  pub described_tree : Tree n (slots n (inner_of bytes))
  described_tree = record {
    neck =
        let l : 0 < n = omega (arith, clean.sized.some) in
        slots_in n (inner_of bytes) 0 clean.sized.most l ∙ eqb-true (inner_of bytes 0) 0 (not-false _ (inner_fine 0 l));
    lower = λ s z l.
        let at = slots_in n (inner_of bytes) s clean.sized.most l in
        let low : leb s (inner_of bytes s) ≡ false = sym (cond-false (eqb s 0) _ _ (ne_eqb s 0 (λ e. omega arith))) ∙ inner_fine s l in
        omega (arith, leb-false s (inner_of bytes s) low);
  }

  mark_fine : (s : ℕ) → s < n → mark_of bytes s ≤ 3
  mark_fine s l = ltb-false 3 (mark_of bytes s) (lowest_clean (mark_at_fault bytes) n clean.marks_right s l)

  pub described_wagons : Single n (slots n (λ s. mark_of bytes s % 2))
  described_wagons s l = let at = slots_in n (λ t. mark_of bytes t % 2) s clean.sized.most l in omega arith

  pub described_berths : Single n (slots n (λ s. mark_of bytes s / 2))
  described_berths s l = let at = slots_in n (λ t. mark_of bytes t / 2) s clean.sized.most l in let m = mark_fine s l in omega arith
