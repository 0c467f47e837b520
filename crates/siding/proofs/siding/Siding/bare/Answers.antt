use Rattle.std.proofs.Common.{◌≡◌, ℕ, List, get_or, replicate, Ok, sym, refl, ap, ◌∙◌, arith}
use Rattle.motion.specs.Tree.{sum_to}
use Rattle.motion.specs.State.{page_begun}
use Rattle.siding.specs.Sheet.{sheet_of}
use Rattle.siding.specs.Stands.{standing}
use Rattle.siding.proofs.Blank.{blank}
use Rattle.siding.proofs.RoundTrip.{WrittenOut, written_drawn}
use Rattle.siding.proofs.siding.Siding.bare.Goals as goal

-- the array of a siding that has nothing
none : List ℕ
none = replicate 512 0

none_at : (s : ℕ) → get_or none s 0 ≡ 0
unfolding none
none_at s = blank 512 0 s

bare_out : WrittenOut (standing 1 none none none)
unfolding none
bare_out = record {
  some = omega arith;
  most = omega arith;
  tree = record { neck = refl; lower = λ s a b. absurd (omega arith) };
  one_wagon = λ s l. omega (arith, none_at s);
  one_berth = λ s l. omega (arith, none_at s);
  long_inner = refl;
  long_wagons = refl;
  long_berths = refl;
  clear_inner = λ s l. none_at s;
  clear_wagons = λ s l. none_at s;
  clear_berths = λ s l. none_at s;
}

pub laid-requires : goal.laid-requires
unfolding none
laid-requires c = record { some = omega arith; most = omega arith; tree = bare_out.tree; clear = bare_out.clear_inner }

pub new-requires : goal.new-requires
unfolding none
new-requires c s = omega (arith, none_at s)

pub new-requires-2 : goal.new-requires-2
unfolding none
new-requires-2 c s = omega (arith, none_at s)

pub fresh-requires : goal.fresh-requires
unfolding none
fresh-requires c = record {
  clear_wagons = λ s l. ap (λ (xs : List ℕ). get_or xs s 0) c.new.ensures ∙ none_at s;
  clear_berths = λ s l. ap (λ (xs : List ℕ). get_or xs s 0) c.new-2.ensures ∙ none_at s;
}

same_standing : (n : ℕ) (i w b : List ℕ) → n ≡ 1 → i ≡ none → w ≡ none → b ≡ none → page_begun (standing n i w b) ≡ page_begun (standing 1 none none none)
same_standing n i w b p q r s = cc

pub returns : goal.returns
unfolding none sheet_of sum_to
returns c =
    let same = c.fresh.ensures ∙ same_standing _ _ _ _ c.laid.ensures.sections c.laid.ensures.inner c.new.ensures c.new-2.ensures in
    written_drawn (standing 1 none none none) bare_out ∙ ap Ok (sym same)
