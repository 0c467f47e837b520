use Rattle.siding.specs.Sheet.{drawn}
use Rattle.quoting.proofs.Quotes.{quote_least, all_told}
use Rattle.quoting.proofs.replay.replay.Goals as goal

pub returns : goal.returns
returns g c =
    let rule = g.F.Tariff.rule c.args.tariff.now in
    let end = c.replay.new.siding in
    let least = quote_least rule end (g.met.F.Tariff.laws c.args.tariff.now) c.quote-quote.result c.quote-quote.ensures in
    record {
      run = c.replay.ensures.run;
      answer = all_told rule end (drawn c.args.sheet.now) c.in_ok-page.page c.quote-quote.result c.in_ok-page.ensures.answer least;
    }
