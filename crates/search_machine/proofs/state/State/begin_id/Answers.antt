-- `begin_id` meets its contract.
-- Assumes nothing.
use Rattle.search_machine.proofs.BeginLaws.{id_fails, id_keeps}
use Rattle.search_machine.proofs.state.State.begin_id.Goals as goal

pub returns-then-self-ne1-clause-begun : goal.returns-then-self-ne1-clause-begun
returns-then-self-ne1-clause-begun c = (id_fails c.args.work.now c.args.self c.requires _ c.if-self-ne1.true c.fail.ensures).0

pub returns : goal.returns
returns c = let r = id_keeps c.args.work.now c.args.self c.requires _ _ c.if-self-ne1.false c.leaf.ensures.written c.leaf.ensures.state in record { begun = r.0; stays = r.1 }
