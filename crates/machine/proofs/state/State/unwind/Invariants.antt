-- `unwind` meets its contract: what is left to unwind comes to the same; every turn takes a frame off.
-- Assumes nothing.
use Prim.Native.Nat.{◌-◌}
use Rattle.arities.specs.Layout.{frames_end}
use Rattle.machine.specs.Popping.{Fewer}
use Rattle.machine.proofs.UnwindLaws.{Towards}
use Rattle.machine.proofs.state.State.unwind.Given as goal

abbrev pub invariant-loop-s : goal.invariant-loop-s
invariant-loop-s l = Towards l.initial.work l.initial.s l.work l.s × Fewer l.initial.work l.initial.s l.work l.s

abbrev pub decreases-loop-s : goal.decreases-loop-s
decreases-loop-s l = frames_end - l.s.top
