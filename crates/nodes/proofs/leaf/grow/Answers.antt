-- `leaf::grow` meets its contract: the cell of the node, those of its premises, and the row of new nodes are stored one after the other.
-- Assumes nothing.
use Rattle.nodes.proofs.LeafLaws.{grown_is}
use Rattle.nodes.proofs.leaf.grow.Goals as goal

pub returns : goal.returns
returns c = grown_is _ _ _ _ _ _ _ _ _ _ _ c.put_use.ensures c.put_opens.ensures c.put_range.ensures
