use Rattle.std.proofs.Common.{sym, refl, ap, ◌∙◌, arith}
use Rattle.siding.specs.Sheet.{overwritten, two_bytes}
use Rattle.siding.specs.Stands.{state_of}
use Rattle.siding.proofs.Held.{wagons_counted}
use Rattle.siding.proofs.RoundTrip.{sheet_length}
use Rattle.siding.proofs.WrittenOut.{written_out, read_back}
use Rattle.siding.proofs.siding.Siding.write_sheet.Goals as goal

pub returns : goal.returns
returns c =
    let x = c.args.self.now in
    let old = c.args.buffer.now in
    let second = c.put_word-2.ensures ∙ ap (λ v. overwritten c.put_word.new.buffer 2 (two_bytes v)) (wagons_counted x) in
    let whole = written_out (state_of x) old _ _ _ _ (omega arith) c.put_word.ensures second c.put_inner.ensures c.put_marks.ensures in
    record {
      written = (sym (sheet_length (state_of x)), whole);
      sheet_round_trip = read_back x old _ _ refl whole;
    }
