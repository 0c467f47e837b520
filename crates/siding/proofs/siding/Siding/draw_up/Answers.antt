use Rattle.std.proofs.Common.{◌≡◌, List, ℕ, Ok, Err, sym, refl, ap, ◌∙◌, subst}
use Rattle.refusal.specs.declared.Refusal.TheVariants.{WagonsMiscounted}
use Rattle.motion.specs.State.{page_begun}
use Rattle.siding.specs.Kept.{Clear}
use Rattle.siding.specs.Sheet.{drawn}
use Rattle.siding.specs.Stands.{state_of, standing}
use Rattle.siding.proofs.DrawnUp.{slots_clear, read_tree, read_wagons_single, read_berths_single, drawn_up, not_drawn_up}
use Rattle.siding.proofs.RoundTrip.{drawn_written}
use Rattle.siding.proofs.siding.Siding.draw_up.Goals as goal

pub new-wagons-requires : goal.new-wagons-requires
new-wagons-requires c =
    let x = c.in_ok-sheet.sheet in
    read_wagons_single x.bytes.now x.sections c.in_ok-sheet.ensures.1 c.wagons.result c.wagons.ensures

pub returns-then-miscounted : goal.returns-then-miscounted
returns-then-miscounted c =
    let x = c.in_ok-sheet.sheet in
    let why = not_drawn_up x.bytes.now x.sections c.in_ok-sheet.ensures.1 c.new-wagons.result (c.new-wagons.ensures ∙ c.wagons.ensures) (λ e. c.if-miscounted.true (e ∙ sym c.wagons_stated.ensures)) in
    record {
      drawn = (subst (λ (bytes : List ℕ). drawn bytes ≡ Err WagonsMiscounted) c.in_ok-sheet.ensures.0 why, refl);
      sheet_round_trip = tt;
    }

pub laid-track-requires : goal.laid-track-requires
laid-track-requires c =
    let x = c.in_ok-sheet.sheet in
    record {
      some = x.some;
      most = x.most;
      tree = read_tree x.bytes.now x.sections c.in_ok-sheet.ensures.1 c.inner.result c.inner.ensures;
      clear = slots_clear x.sections _ c.inner.result x.most c.inner.ensures;
    }

pub new-requires : goal.new-requires
new-requires c =
    let x = c.in_ok-sheet.sheet in
    read_berths_single x.bytes.now x.sections c.in_ok-sheet.ensures.1 c.berths.result c.berths.ensures

pub fresh-requires : goal.fresh-requires
fresh-requires c =
    let x = c.in_ok-sheet.sheet in
    let same = sym c.laid-track.ensures.sections in
    record {
      clear_wagons = subst (λ n. Clear n c.new-wagons.result.in_section) same (slots_clear x.sections _ _ x.most (c.new-wagons.ensures ∙ c.wagons.ensures));
      clear_berths = subst (λ n. Clear n c.new.result.in_section) same (slots_clear x.sections _ _ x.most (c.new.ensures ∙ c.berths.ensures));
    }

pub returns : goal.returns
returns c =
    let x = c.in_ok-sheet.sheet in
    let made =
    c.fresh.ensures
    ∙ ap (λ n. page_begun (standing n c.laid-track.result.inner c.new-wagons.result.in_section c.new.result.in_section)) c.laid-track.ensures.sections in
    let there =
    drawn_up x.bytes.now x.sections c.in_ok-sheet.ensures.1 c.new-wagons.result (c.new-wagons.ensures ∙ c.wagons.ensures) c.laid-track.result.inner c.new.result.in_section
    (c.laid-track.ensures.inner ∙ c.inner.ensures) (c.new.ensures ∙ c.berths.ensures) c.fresh.result made (c.if-miscounted.false ∙ c.wagons_stated.ensures) in
    let done = subst (λ (bytes : List ℕ). drawn bytes ≡ Ok (state_of c.fresh.result)) c.in_ok-sheet.ensures.0 there in
    record {
      drawn = done;
      sheet_round_trip = drawn_written c.args.sheet.now (λ k. (c.type_inv.sheet k).fits) _ done;
    }
