-- `print::write_use` meets its contract: the tag, the length, the name and the goal are stored one behind the other.
-- Assumes nothing.
use mathlib.Core.Path.{refl}
use Rattle.flattener.proofs.PrintLaws.{use_stored}
use Rattle.flattener.proofs.print.write_use.Goals as goal

pub returns : goal.returns
returns c =
    use_stored _ _ _ _ _ _ _ _ refl c.store16.ensures
    c.store16-2.ensures c.store16-3.ensures
