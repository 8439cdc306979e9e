-- `step_in` meets its contract: the next term is there, or the frames are unwound.
-- Assumes nothing.
use Rattle.machine.proofs.StepLaws.{steps_next, unwinding, steps_end}
use Rattle.machine.proofs.state.State.step_in.Goals as goal

pub returns-in-Running-clause-steps : goal.returns-in-Running-clause-steps
returns-in-Running-clause-steps c =
    let a = c.args in
    steps_next a.table.now a.first a.src.now a.work.now a.self _ _ c.begin-s.ensures.begun c.in-Running.is

pub unwind-requires : goal.unwind-requires
unwind-requires c =
    let a = c.args in
    unwinding a.table.now a.first a.src.now a.work.now a.self _ _ c.begin-s.ensures.begun c.in_default.not-Running c.requires c.begin-s.ensures.grown

pub returns-in_default-clause-steps : goal.returns-in_default-clause-steps
returns-in_default-clause-steps c =
    let a = c.args in
    steps_end a.table.now a.first a.src.now a.work.now a.self _ _ c.begin-s.ensures.begun c.in_default.not-Running _ _ c.unwind.ensures.unwound
