-- `finished::write_finished` meets its contract: at every turn the fields of the frames passed, outermost first, are written. Assumes nothing.
use Rattle.saver.proofs.FinishedLaws.{FinishedTurn}
use Rattle.saver.proofs.finished.write_finished.Given as goal

abbrev pub invariant-loop-at : goal.invariant-loop-at
invariant-loop-at l = FinishedTurn l.initial.work l.top l.out l.to l.work l.at l.next

abbrev pub decreases-loop-at : goal.decreases-loop-at
decreases-loop-at l = l.at
