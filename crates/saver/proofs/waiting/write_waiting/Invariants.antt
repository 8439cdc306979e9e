-- `waiting::write_waiting` meets its contract: what is written so far, with the bytes of the frames that are left, are the bytes of all. Assumes nothing.
use Rattle.saver.proofs.WaitingLaws.{WaitingTurn}
use Rattle.saver.proofs.waiting.write_waiting.Given as goal

abbrev pub invariant-loop-i : goal.invariant-loop-i
invariant-loop-i l = WaitingTurn l.fn.work l.fn.frames l.fn.n l.fn.to l.work l.i l.next
