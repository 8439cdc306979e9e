-- `begin_empty` meets its contract: by the number of goals, then by the fields held.
-- Assumes nothing.
use Rattle.machine.proofs.BeginLaws.{empty_fails, empty_ends, keep_grown}
use Rattle.machine.proofs.state.State.begin_empty.Goals as goal

pub returns-then-self-ne0-clause-begun : goal.returns-then-self-ne0-clause-begun
returns-then-self-ne0-clause-begun c = empty_fails c.args.work.now c.args.self c.requires.room _ c.if-self-ne0.true c.lose.ensures

pub returns-clause-begun : goal.returns-clause-begun
returns-clause-begun c = empty_ends c.args.work.now c.args.self c.requires.room c.if-self-ne0.false _ _ c.keep.ensures

pub returns-clause-grown : goal.returns-clause-grown
returns-clause-grown c = keep_grown c.args.work.now c.args.self c.requires.room 21 _ _ c.keep.ensures
