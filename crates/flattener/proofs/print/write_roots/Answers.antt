-- `print::write_roots` meets its contract: the tag, the length and the goals are stored one behind the other.
-- Assumes nothing.
use Rattle.std.proofs.Common.{refl, arith}
use Rattle.flattener.proofs.PrintLaws.{roots_stored}
use Rattle.flattener.proofs.print.write_roots.Goals as goal

pub returns : goal.returns
returns c = roots_stored _ _ _ _ _ _ _ (λ i. omega (arith, c.type_inv.file i)) c.requires.1 c.requires.0 refl c.store16.ensures c.copy_in.ensures
