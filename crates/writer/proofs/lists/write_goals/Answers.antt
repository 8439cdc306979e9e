-- `lists::write_goals` meets its contract: the header, then the goals as they stand.
-- Assumes nothing.
use native.Mathlib.Omega.{arith}
use Rattle.writer.proofs.GoalLaws.{list_copied}
use Rattle.writer.proofs.lists.write_goals.Goals as goal

pub returns : goal.returns
returns c = list_copied _ _ _ _ _ _ (λ i. omega (arith, c.type_inv.flat i)) c.requires.0 c.requires.1 c.write_header.ensures c.copy_in.ensures
