-- `marks::put_digits` meets its contract: the digits from a place on are written, the others are those of what is left of the value.
-- Assumes nothing.
use Rattle.text_writer.proofs.DigitLaws.{Left}
use Rattle.text_writer.proofs.marks.put_digits.Given as goal

abbrev pub invariant-loop-i : goal.invariant-loop-i
invariant-loop-i l = Left l.v l.at l.i l.rest l.fn.out l.out
