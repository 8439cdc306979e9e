-- `node::link` meets its contract.
-- Assumes nothing.
use Rattle.index.proofs.NodeLaws.{either_link}
use Rattle.index.proofs.node.link.Goals as goal

pub returns : goal.returns
returns c = either_link _ _ _ _ _ c.from-right.ensures c.low16-pair.ensures.0
