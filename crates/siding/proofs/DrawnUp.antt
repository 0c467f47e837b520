-- A siding made from what a faultless sheet holds is the one that the sheet describes.
use Rattle.std.proofs.Common.{◌≡◌, ℕ, ◌/◌, ◌%◌, ◌≤◌, List, get_or, Ok, Err, sym, ap, ◌∙◌, subst, ⊎_elim, arith}
use Rattle.refusal.specs.declared.Refusal.TheVariants.{WagonsMiscounted}
use Rattle.motion.specs.Tree.{Tree, total}
use Rattle.motion.specs.State.{page_begun}
use Rattle.siding.specs.declared.placed.Placed.{Placed}
use Rattle.siding.specs.declared.sheet.Sheet.{Sheet}
use Rattle.siding.specs.declared.siding.Siding.{Siding}
use Rattle.siding.specs.Kept.{Clear}
use Rattle.siding.specs.Sheet.{wagons_stated, inner_of, mark_of, slots, described, drawn, Sized, Faultless}
use Rattle.siding.specs.Stands.{state_of, standing}
use Rattle.siding.proofs.Counted.{AtMostOne}
use Rattle.siding.proofs.Drawn.{drawn_counted, drawn_miscounted, described_tree, described_wagons, described_berths}
use Rattle.siding.proofs.Held.{placed_counted}
use Rattle.siding.proofs.Slots.{slots_past}
use Rattle.std.proofs.lemmas.Bool.{cases_lt}

pub sheet_sized : (x : Sheet) → Sized x.bytes.now x.sections
sheet_sized x = record { sections = x.stated; some = x.some; most = x.most; size = x.size }

-- slots hold 0 past the sections
pub slots_clear : (n : ℕ) (f : ℕ → ℕ) (xs : List ℕ) → n ≤ 512 → xs ≡ slots n f → Clear n xs
slots_clear n f xs most e s l = ap (λ ys. get_or ys s 0) e ∙ slots_past n f s most l

module _ (bytes : List ℕ) (n : ℕ) (clean : Faultless bytes n) where
  most : n ≤ 512
  most = clean.sized.most

  pub read_tree : (inner : List ℕ) → inner ≡ slots n (inner_of bytes) → Tree n inner
  read_tree inner e = subst (Tree n) (sym e) (described_tree bytes n clean)

  pub read_wagons_single : (xs : List ℕ) → xs ≡ slots n (λ s. mark_of bytes s % 2) → AtMostOne xs
  read_wagons_single xs e s =
      let same = ap (λ ys. get_or ys s 0) e in
      ⊎_elim (λ l. let one = described_wagons bytes n clean s l in omega arith) (λ l. let none = slots_past n (λ t. mark_of bytes t % 2) s most l in omega arith) (cases_lt s n)

  pub read_berths_single : (xs : List ℕ) → xs ≡ slots n (λ s. mark_of bytes s / 2) → AtMostOne xs
  read_berths_single xs e s =
      let same = ap (λ ys. get_or ys s 0) e in
      ⊎_elim (λ l. let one = described_berths bytes n clean s l in omega arith) (λ l. let none = slots_past n (λ t. mark_of bytes t / 2) s most l in omega arith) (cases_lt s n)

  module _ (wagons : Placed) (read_wagons : wagons.in_section ≡ slots n (λ s. mark_of bytes s % 2)) where
    counted : wagons.in_all ≡ total n (slots n (λ s. mark_of bytes s % 2))
    counted = placed_counted n wagons most (slots_clear n _ wagons.in_section most read_wagons) ∙ ap (total n) read_wagons

    pub not_drawn_up : (wagons.in_all ≡ wagons_stated bytes → ⊥) → drawn bytes ≡ Err WagonsMiscounted
    not_drawn_up ne = drawn_miscounted bytes n clean (λ e. ne (counted ∙ sym e))

    module _ (inner berths : List ℕ) (read_inner : inner ≡ slots n (inner_of bytes)) (read_berths : berths ≡ slots n (λ s. mark_of bytes s / 2))
        (y : Siding) (made : state_of y ≡ page_begun (standing n inner wagons.in_section berths)) where
      is_described : state_of y ≡ described bytes
      is_described =
          made
          ∙ ap (λ i. page_begun (standing n i wagons.in_section berths)) read_inner
          ∙ ap (λ w. page_begun (standing n (slots n (inner_of bytes)) w berths)) read_wagons
          ∙ ap (λ b. page_begun (standing n (slots n (inner_of bytes)) (slots n (λ s. mark_of bytes s % 2)) b)) read_berths
          ∙ ap (λ k. page_begun (standing k (slots k (inner_of bytes)) (slots k (λ s. mark_of bytes s % 2)) (slots k (λ s. mark_of bytes s / 2)))) clean.sized.sections

      pub drawn_up : wagons.in_all ≡ wagons_stated bytes → drawn bytes ≡ Ok (state_of y)
      drawn_up e = drawn_counted bytes n clean (sym e ∙ counted) ∙ ap Ok (sym is_described)
