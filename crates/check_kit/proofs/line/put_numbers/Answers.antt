-- `put_numbers` meets its contract: each text with its number stands behind the line so far, and a number is at most ten bytes, so that there is room.
-- Assumes nothing.
use native.Mathlib.Omega.{arith}
use Rattle.entries.specs.PrintedLine.{decimal}
use Rattle.check_kit.proofs.LineLaws.{number_ends, puts_more}
use Rattle.check_kit.proofs.line.put_numbers.Goals as goal

pub put_number-at-requires-2 : goal.put_number-at-requires-2
put_number-at-requires-2 c =
    let a = c.args in
    omega (arith, number_ends a.first.now a.a c.put_number-at.ensures)

pub put_number-requires : goal.put_number-requires
put_number-requires c =
    let a = c.args in
    omega (arith, c.requires, number_ends a.first.now a.a c.put_number-at.ensures, number_ends a.second.now a.b c.put_number-at-2.ensures)

pub returns : goal.returns
returns c =
    let a = c.args in
    let two = puts_more a.second.now (decimal a.b) (omega arith) c.put_number-at.ensures c.put_number-at-2.ensures in
    puts_more a.third.now (decimal a.c) (omega arith) two c.put_number.ensures
