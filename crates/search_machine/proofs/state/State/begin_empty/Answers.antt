-- `begin_empty` meets its contract.
-- Assumes nothing.
use Rattle.search_machine.proofs.BeginLaws.{empty_fails, empty_keeps}
use Rattle.search_machine.proofs.state.State.begin_empty.Goals as goal

pub returns-then-self-ne0-clause-begun : goal.returns-then-self-ne0-clause-begun
returns-then-self-ne0-clause-begun c = (empty_fails c.args.work.now c.args.self c.requires _ c.if-self-ne0.true c.fail.ensures).0

pub returns : goal.returns
returns c = let r = empty_keeps c.args.work.now c.args.self c.requires _ _ c.if-self-ne0.false c.leaf.ensures.written c.leaf.ensures.state in record { begun = r.0; stays = r.1 }
