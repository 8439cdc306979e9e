-- `leaf::keep_goal` meets its contract: the goal is stored behind those given.
-- Assumes nothing.
use Rattle.checker.proofs.LeafLaws.{id_not_one, id_one}
use Rattle.checker.proofs.leaf.keep_goal.Goals as goal

pub returns-then-n-ne1 : goal.returns-then-n-ne1
returns-then-n-ne1 c = λ T at. id_not_one T at _ _ c.if-n-ne1.true

pub returns : goal.returns
returns c = λ T at. id_one T at _ _ _ _ c.if-n-ne1.false c.load16-goal.ensures c.store16.ensures c.store16.auto.s c.requires.0 c.requires.1 c.requires.2
