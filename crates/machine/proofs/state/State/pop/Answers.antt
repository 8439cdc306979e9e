-- `pop` meets its contract: by the mode.
-- Assumes nothing.
use Rattle.machine.proofs.WaitingLaws.{waiting-fits}
use Rattle.machine.proofs.PopLaws.{ended_end}
use Rattle.machine.proofs.state.State.pop.Goals as goal

pub leave-requires : goal.leave-requires
leave-requires c = (waiting-fits c.args.work.now c.args.self c.requires).frames_high

pub returns-in_default-clause-popped : goal.returns-in_default-clause-popped
returns-in_default-clause-popped c = ended_end c.args.work.now c.args.self _ c.in_default.not-Proved c.in_default.not-Failed c.leave.ensures
