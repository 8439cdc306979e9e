-- `leaf::keep_node` meets its contract: the node is stored behind those given.
-- Assumes nothing.
use Rattle.nodes.proofs.LeafLaws.{id_count, id_gives}
use Rattle.nodes.proofs.leaf.keep_node.Goals as goal

pub returns-then-n-ne1 : goal.returns-then-n-ne1
returns-then-n-ne1 c = λ T at. id_count T at _ _ _ c.if-n-ne1.true

pub returns : goal.returns
returns c = λ T at. id_gives T at _ _ _ _ _ c.requires c.if-n-ne1.false c.load16-node.ensures c.store16.ensures
