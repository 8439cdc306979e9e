-- `turn` meets its contract: the frame is stored anew for the right term of a sequence.
-- Assumes nothing.
use Rattle.machine.proofs.TurnLaws.{turn_end}
use Rattle.machine.proofs.state.State.turn.Goals as goal

pub returns : goal.returns
returns c =
    let a = c.args in
    let e = turn_end a.work.now a.self a.f c.requires.0 _ c.requires.1 c.store_frame.ensures in
    record { popped = e.0; smaller = e.1 }
