use Rattle.std.proofs.Common.{◌≡◌, ◌<◌, ◌≤◌, get_or, None, sym, ◌∙◌, arith}
use Rattle.std.proofs.lemmas.List.{take_rest}
use Rattle.daybook.specs.Line.{digits_from, with_digit, largest}
use Rattle.daybook.proofs.Digits.{stops, too_large, goes_on, nothing_follows, fitted}
use Rattle.daybook.proofs.line.read_digits.Goals as goal

pub returns-then-not-is_ascii_digit : goal.returns-then-not-is_ascii_digit
returns-then-not-is_ascii_digit c =
    let s = c.args.rest.now in
    let e = stops s c.loop-n.n c.loop-n.number c.loop-n-test.true (sym c.if-not-is_ascii_digit.ensures.value) in
    let rest = take_rest s c.loop-n.n in
    cc c.loop-n.invariant.1

pub returns-in_err-number : goal.returns-in_err-number
returns-in_err-number c =
    let digit = sym c.if-not-is_ascii_digit.ensures.value in
    let read = rw (← c.in_err-number.ensures.value) at (fitted c.try_from.result _ c.try_from.ensures) in
    let large : largest < with_digit c.loop-n.number (get_or c.args.rest.now c.loop-n.n 0) = omega (arith, read, c.from.ensures, c.from-in-loop-n.ensures) in
    let none : digits_from 0 c.args.rest.now ≡ None = sym c.loop-n.invariant.1 ∙ too_large c.args.rest.now c.loop-n.n c.loop-n.number c.loop-n-test.true digit large in
    rw c.from_residual.ensures none

pub loop-n-preserved : goal.loop-n-preserved
loop-n-preserved c =
    let digit = sym c.if-not-is_ascii_digit.ensures.value in
    let read = rw (← c.in_ok-number.ensures.value) at (fitted c.try_from.result _ c.try_from.ensures) in
    let is : c.in_ok-number.number ≡ with_digit c.loop-n.number (get_or c.args.rest.now c.loop-n.n 0) = omega (arith, read.0, c.from.ensures, c.from-in-loop-n.ensures) in
    let fits : c.in_ok-number.number ≤ largest = omega (arith, read.0, read.1) in
    let e = goes_on c.args.rest.now c.loop-n.n c.loop-n.number c.loop-n-test.true digit (omega arith) in
    (fits, cc c.loop-n.invariant.1)

pub returns : goal.returns
returns c = sym c.loop-n.invariant.1 ∙ nothing_follows c.args.rest.now c.loop-n.n c.loop-n.number c.loop-n-test.false
