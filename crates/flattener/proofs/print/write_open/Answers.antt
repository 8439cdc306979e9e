-- `print::write_open` meets its contract: the tag, the length and the goal are stored one behind the other.
-- Assumes nothing.
use mathlib.Core.Path.{refl}
use Rattle.flattener.proofs.PrintLaws.{open_stored}
use Rattle.flattener.proofs.print.write_open.Goals as goal

pub returns : goal.returns
returns c = open_stored _ _ _ _ _ _ refl c.store16.ensures c.store16-2.ensures
