-- `put_decimal` meets its contract: io's digits are those of the printed line, and at most ten.
-- Assumes nothing.
use native.Mathlib.Omega.{arith}
use Rattle.check_kit.proofs.LineLaws.{decimal_puts, decimal_short}
use Rattle.check_kit.proofs.line.put_decimal.Goals as goal

pub put_text-requires : goal.put_text-requires
put_text-requires c = omega (arith, decimal_short c.args.n c.decimal-count.result (omega arith) c.decimal-count.ensures.len c.decimal-count.new.out c.decimal-count.ensures.digits)

pub returns : goal.returns
returns c = decimal_puts c.args.n c.decimal-count.result (omega arith) c.decimal-count.ensures.len c.decimal-count.new.out c.decimal-count.ensures.digits c.put_text.ensures
