-- `join` meets its contract: by the number of goals and by the fields held, joined or ended.
-- Assumes nothing.
use native.Mathlib.Omega.{arith}
use Rattle.machine.proofs.JoinLaws.{join_end}
use Rattle.machine.proofs.state.State.join.Goals as goal

pub returns : goal.returns
returns c =
    let a = c.args in
    let e = join_end a.work.now a.self a.f c.requires.0 c.requires.1 (omega arith) (omega arith) _ c.join_goals.ensures _ c.store16.ensures in
    record { popped = e.0; smaller = e.1 }
