-- `pop_failed` meets its contract: by the kind of the frame.
-- Assumes nothing.
use native.Mathlib.Omega.{arith}
use Rattle.machine.proofs.WaitingLaws.{waiting_top, waiting-fits}
use Rattle.machine.proofs.PopLaws.{failed_end, alternative_end}
use Rattle.machine.proofs.state.State.pop_failed.Goals as goal

pub load_frame-f-requires : goal.load_frame-f-requires
load_frame-f-requires c = let p = c.requires.1 in omega (arith, waiting_top c.args.work.now c.args.self p, p.space)

pub leave-requires : goal.leave-requires
leave-requires c = (waiting-fits c.args.work.now c.args.self c.requires.1).frames_high

pub returns-then-f-ne-ALTERNATION_LEFT-clause-popped : goal.returns-then-f-ne-ALTERNATION_LEFT-clause-popped
returns-then-f-ne-ALTERNATION_LEFT-clause-popped c =
    let a = c.args in
    failed_end a.work.now a.self c.load_frame-f.result c.load_frame-f.ensures _ c.requires.0 c.if-f-ne-ALTERNATION_LEFT.true c.leave.ensures

pub overflow_add-result : goal.overflow_add-result
overflow_add-result c = omega (arith, waiting_top c.args.work.now c.args.self c.requires.1)

pub returns-clause-popped : goal.returns-clause-popped
returns-clause-popped c =
    let a = c.args in
    alternative_end a.work.now a.self c.load_frame-f.result c.load_frame-f.ensures c.requires.0 c.if-f-ne-ALTERNATION_LEFT.false
