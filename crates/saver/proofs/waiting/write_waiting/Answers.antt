-- A turn keeps what holds, and what holds at the end are the bytes of all: WaitingLaws. Assumes nothing.
use Rattle.std.proofs.Common.{arith}
use Rattle.saver.proofs.WaitingLaws.{waiting_frame_given, waiting_next, waiting_all}
use Rattle.saver.proofs.waiting.write_waiting.Goals as goal

pub write_frame-next-requires : goal.write_frame-next-requires
write_frame-next-requires c = waiting_frame_given _ _ _ _ _ _ _ c.loop-i.invariant (omega (arith, c.loop-i-test.true)) _ c.pop-f.ensures

pub loop-i-preserved : goal.loop-i-preserved
loop-i-preserved c = waiting_next _ _ _ _ _ _ _ c.loop-i.invariant (omega (arith, c.loop-i-test.true)) _ c.pop-f.ensures _ _ c.write_frame-next.ensures

pub returns : goal.returns
returns c = waiting_all _ _ _ _ _ _ _ c.loop-i.invariant (omega (arith, c.loop-i-test.false))
