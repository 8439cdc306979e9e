-- `begin_id` meets its contract: by the number of goals, then by the fields held.
-- Assumes nothing.
use Rattle.machine.proofs.BeginLaws.{id_fails, id_ends, keep_grown}
use Rattle.machine.proofs.state.State.begin_id.Goals as goal

pub returns-then-self-ne1-clause-begun : goal.returns-then-self-ne1-clause-begun
returns-then-self-ne1-clause-begun c = id_fails c.args.work.now c.args.self c.requires.room _ c.if-self-ne1.true c.lose.ensures

pub returns-clause-begun : goal.returns-clause-begun
returns-clause-begun c = id_ends c.args.work.now c.args.self c.requires.room c.if-self-ne1.false _ _ c.keep.ensures

pub returns-clause-grown : goal.returns-clause-grown
returns-clause-grown c = keep_grown c.args.work.now c.args.self c.requires.room 17 _ _ c.keep.ensures
