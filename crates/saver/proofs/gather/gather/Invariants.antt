-- `gather::gather` meets its contract: the frames gathered so far, with those still to come, are all of them. Assumes nothing.
use Rattle.std.proofs.Common.{◌-◌}
use Rattle.arities.specs.Layout.{frames_end}
use Rattle.saver.proofs.GatherLaws.{GatherTurn}
use Rattle.saver.proofs.gather.gather.Given as goal

abbrev pub invariant-loop-at : goal.invariant-loop-at
invariant-loop-at l = GatherTurn l.work l.fn.frames l.fn.top l.fn.inside l.frames l.n l.at l.held

abbrev pub decreases-loop-at : goal.decreases-loop-at
decreases-loop-at l = frames_end - l.at
