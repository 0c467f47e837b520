use Rattle.std.proofs.Common.{◌≡◌, Option, sym, ap, ◌∙◌, rules, tests}
use Rattle.std.specs.Option.{ok_or}
use Rattle.std.specs.Result.{result_ok}
use Rattle.std.specs.Slice.Iter.{split_inclusive_rest}
use Rattle.motion.specs.declared.calls.Act.{Act}
use Rattle.refusal.specs.declared.Refusal.TheVariants.{BadLine}
use Rattle.daybook.proofs.Lines.{next_line}
use Rattle.daybook.proofs.ActsRead.{bad_line, read_more, read_stops, read_all}
use Rattle.daybook.proofs.acts.read_acts.Goals as goal

pub returns-in_err-act-clause-unread : goal.returns-in_err-act-clause-unread
returns-in_err-act-clause-unread c =
    let first = next_line _ _ _ _ _ c.next.result c.in-Some.line c.in-Some.is c.next.ensures.steps (λ a r q k. search (rules, tests)) in
    let none = c.ok_or.ensures.ok_part ∙ ap result_ok c.in_err-act.was in
    let bad : c.in_err-act.field-0.0 ≡ BadLine = cc (ap (λ o. ok_or o BadLine) none) in
    bad_line _ _ _ c.from_residual.ensures.1 bad (read_stops _ _ _ _ _ first (sym {A = Option Act} c.read_line.ensures.meant ∙ none) c.loop-line.invariant)

pub loop-line-preserved : goal.loop-line-preserved
loop-line-preserved c =
    let first = next_line _ _ _ _ _ c.next.result c.in-Some.line c.in-Some.is c.next.ensures.steps (λ a r q k. search (rules, tests)) in
    let says = sym {A = Option Act} c.read_line.ensures.meant ∙ (c.ok_or.ensures.ok_part ∙ ap result_ok c.in_ok-act.was) in
    rw c.in_ok-push.ensures.items (read_more _ _ _ _ _ c.in_ok-act.act first says c.loop-line.invariant)

pub returns-clause-acts : goal.returns-clause-acts
returns-clause-acts c =
    let steps = rw c.in-None.is at c.next.ensures.steps in
    read_all _ (split_inclusive_rest c.loop-line.line-iterator) _ steps.0 c.loop-line.invariant
