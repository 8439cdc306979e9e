-- `leaf::take_nothing` meets its contract: a test of the count.
-- Assumes nothing.
use Rattle.nodes.proofs.LeafLaws.{empty_count, empty_gives}
use Rattle.nodes.proofs.leaf.take_nothing.Goals as goal

pub returns-then-n-ne0 : goal.returns-then-n-ne0
returns-then-n-ne0 c = λ T at w. empty_count T at w _ _ c.if-n-ne0.true

pub returns : goal.returns
returns c = λ T at w. empty_gives T at w _ _ c.if-n-ne0.false
