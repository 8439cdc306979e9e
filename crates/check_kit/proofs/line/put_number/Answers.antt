-- `put_number` meets its contract: the number stands behind the text.
-- Assumes nothing.
use native.Mathlib.Omega.{arith}
use Rattle.check_kit.proofs.LineLaws.{puts_then}
use Rattle.check_kit.proofs.line.put_number.Goals as goal

pub returns : goal.returns
returns c = puts_then (omega arith) c.put_text-next.ensures c.put_decimal.ensures
