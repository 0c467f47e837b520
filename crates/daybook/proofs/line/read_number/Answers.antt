use Rattle.std.proofs.Common.{◌≡◌, length, ◌-◌, ◌≤◌}
use Rattle.std.proofs.Common.{get_or, take, drop, arith}
use Rattle.std.proofs.lemmas.List.{take_all, length-drop}
use Rattle.daybook.proofs.Digits.{read_on}
use Rattle.daybook.proofs.line.read_number.Goals as goal

-- src/line.rt:62:1
pub returns-in-49-to-57 : goal.returns-in-49-to-57
returns-in-49-to-57 c =
    let s = c.args.rest.now in
    let rest = take_all (length s - 1) (drop 1 s) (omega (arith, length-drop 1 s)) in
    let first : get_or s 0 0 ≡ 32 = omega arith in
    let low : 49 ≤ get_or (take (length s - 1) (drop 1 s)) 0 0 = omega arith in
    let high : get_or (take (length s - 1) (drop 1 s)) 0 0 ≤ 57 = omega arith in
    rw (read_on s first (rw rest at low) (rw rest at high)) (rw rest at c.read_digits.ensures)
