-- `marks::put_digits` meets its contract: each turn writes the last digit of what is left of the value.
-- Assumes nothing.
use native.Mathlib.Omega.{arith}
use Rattle.text_writer.proofs.DigitLaws.{none_put, one_put, all_put}
use Rattle.text_writer.proofs.marks.put_digits.Goals as goal

pub loop-i-init : goal.loop-i-init
loop-i-init c = none_put _ _ _ _ c.count_digits-n.ensures.1

pub loop-i-preserved : goal.loop-i-preserved
loop-i-preserved c = one_put _ _ _ _ _ _ _ (omega arith) c.loop-i.invariant

pub returns-clause-written : goal.returns-clause-written
returns-clause-written c = all_put _ _ _ _ _ _ _ c.count_digits-n.ensures.1 c.loop-i-test.false c.loop-i.invariant
