-- `marks::count_digits` meets its contract: one law for each number of digits.
-- Assumes nothing.
use native.Mathlib.Omega.{arith}
use Rattle.text_writer.proofs.DigitLaws.{decimal_1, decimal_2, decimal_3, decimal_4, decimal_5}
use Rattle.text_writer.proofs.marks.count_digits.Goals as goal

pub returns-in-0-to-9 : goal.returns-in-0-to-9
returns-in-0-to-9 c = (omega arith, decimal_1 c.args.v (omega arith))

pub returns-in-10-to-99 : goal.returns-in-10-to-99
returns-in-10-to-99 c = (omega arith, decimal_2 c.args.v (omega arith) (omega arith))

pub returns-in-100-to-999 : goal.returns-in-100-to-999
returns-in-100-to-999 c = (omega arith, decimal_3 c.args.v (omega arith) (omega arith))

pub returns-in-1000-to-9999 : goal.returns-in-1000-to-9999
returns-in-1000-to-9999 c = (omega arith, decimal_4 c.args.v (omega arith) (omega arith))

pub returns-in_default : goal.returns-in_default
returns-in_default c = (omega arith, decimal_5 c.args.v (omega arith) (omega arith))
