use Rattle.std.proofs.Common.{ap, ◌∙◌}
use Rattle.siding.specs.Stands.{state_of}
use Rattle.lists.specs.Bill.{running}
use Rattle.lists.proofs.Entries.{written_as, sums_running, ends_in_quote}
use Rattle.lists.proofs.bill.bill.Goals as goal

pub returns-clause-billed : goal.returns-clause-billed
returns-clause-billed g c =
    let rule = g.F.Tariff.rule c.args.tariff.now in
    written_as (state_of c.args.siding.now) _ (running rule rule.none)
    (λ ms. sums_running g.F.Tariff.rule (record { tariff = c.args.tariff; sum = c.nothing.result }) ms ∙ ap (λ sum. running rule sum ms) c.nothing.ensures)
    c.args.list.now c.write_due.new.list c.write_due.result c.write_due.ensures.due

pub returns-clause-ends : goal.returns-clause-ends
returns-clause-ends g c =
    ends_in_quote (g.F.Tariff.rule c.args.tariff.now) (state_of c.args.siding.now) c.args.list.now c.write_due.new.list c.write_due.result (returns-clause-billed g c)
