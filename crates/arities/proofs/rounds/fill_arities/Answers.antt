-- `rounds::fill_arities` meets its contract: no arity is known, then the rounds.
-- Assumes nothing.
use Rattle.arities.proofs.FillLaws.{fill_all}
use Rattle.arities.proofs.rounds.fill_arities.Goals as goal

pub returns : goal.returns
returns c = fill_all c.args.table.now c.args.first c.args.definitions c.args.work.now _ _ c.clear_arities.ensures c.settle_arities.ensures
