-- `leaf::take_nothing` meets its contract: empty takes no goal and gives none.
-- Assumes nothing.
use Rattle.checker.proofs.LeafLaws.{empty_not_none, empty_none}
use Rattle.checker.proofs.leaf.take_nothing.Goals as goal

pub returns-then-n-ne0 : goal.returns-then-n-ne0
returns-then-n-ne0 c = λ T at w. empty_not_none T at w _ c.if-n-ne0.true

pub returns : goal.returns
returns c = λ T at w. empty_none T at w _ c.if-n-ne0.false
