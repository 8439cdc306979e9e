-- `rounds::clear_arities` meets its contract: the part for the arities is cleared.
-- Assumes nothing.
use Rattle.arities.proofs.FillLaws.{cleared}
use Rattle.arities.proofs.rounds.clear_arities.Goals as goal

pub returns : goal.returns
returns c = cleared c.args.work.now c.clear_part.new.s c.clear_part.auto.s c.clear_part.ensures
