-- `put_line` meets its contract: an answer of number 0 has the texts and numbers of the accepted line, any other those of the refused line, and a number is at most ten bytes, so that there is room.
-- Assumes nothing.
use Prim.Native.Nat.{◌≤◌}
use native.Mathlib.Omega.{arith}
use borrow.Author.Tests.{eq-eqb, ne_eqb}
use Rattle.entries.specs.PrintedLine.{decimal, accepted_text, uses_text, open_text, rules_text, refused_text, file_text, place_text, accepted_line, refused_line, printed_line}
use Rattle.check_kit.proofs.LineLaws.{number_ends, numbers_end_lem, puts_then, puts_more}
use Rattle.check_kit.proofs.line.put_line.Goals as goal

pub put_number-next-requires : goal.put_number-next-requires
put_number-next-requires c =
    let three-end : c.put_numbers-at.result ≤ 58 = numbers_end_lem accepted_text _ uses_text _ open_text _ c.put_numbers-at.ensures in
    omega (arith, three-end, c.requires)

pub put_text-requires : goal.put_text-requires
put_text-requires c =
    let three-end : c.put_numbers-at.result ≤ 58 = numbers_end_lem accepted_text _ uses_text _ open_text _ c.put_numbers-at.ensures in
    let four-end : c.put_number-next.result ≤ 75 = omega (arith, three-end, number_ends rules_text _ c.put_number-next.ensures) in
    omega (arith, four-end, c.requires)

pub returns-then-answer-eq0 : goal.returns-then-answer-eq0
unfolding printed_line accepted_line
returns-then-answer-eq0 c =
    let a = c.args.answer in
    let four = puts_more rules_text (decimal _) (omega arith) c.put_numbers-at.ensures c.put_number-next.ensures in
    rw (eq-eqb a.number 0 c.if-answer-eq0.true) (puts_then (omega arith) four c.put_text.ensures)

pub put_text-requires-else-answer-eq0 : goal.put_text-requires-else-answer-eq0
put_text-requires-else-answer-eq0 c =
    let refused_end : c.put_numbers-at-else-answer-eq0.result ≤ 51 = numbers_end_lem refused_text _ file_text _ place_text _ c.put_numbers-at-else-answer-eq0.ensures in
    omega (arith, refused_end, c.requires)

pub returns-else-answer-eq0 : goal.returns-else-answer-eq0
unfolding printed_line refused_line
returns-else-answer-eq0 c = rw (ne_eqb c.args.answer.number 0 c.if-answer-eq0.false) (puts_then (omega arith) c.put_numbers-at-else-answer-eq0.ensures c.put_text-else-answer-eq0.ensures)
