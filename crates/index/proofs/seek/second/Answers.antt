-- `seek::second` meets its contract: a rule's goal lies within the file.
-- Assumes nothing.
use native.Mathlib.Omega.{arith}
use Rattle.tables.proofs.SearchLaws.{goal_inside}
use Rattle.index.proofs.seek.second.Goals as goal

pub load16-requires : goal.load16-requires
load16-requires c = omega (arith, goal_inside c.args.kind c.args.s.now c.args.at c.requires.0 c.in-Rule.is c.requires.1)
