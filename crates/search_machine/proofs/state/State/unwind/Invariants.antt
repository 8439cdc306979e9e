-- `unwind` meets its contract: what is left to unwind comes to the same; every turn takes a waiting term off.
-- Assumes nothing.
use Rattle.search_machine.specs.Begun.{Stays}
use Rattle.search_machine.proofs.UnwindLaws.{Towards, left}
use Rattle.search_machine.proofs.state.State.unwind.Given as goal

abbrev pub invariant-loop-s : goal.invariant-loop-s
invariant-loop-s l = Towards l.initial.work l.initial.s l.work l.s × Stays l.initial.work l.initial.s l.work l.s

abbrev pub decreases-loop-s : goal.decreases-loop-s
decreases-loop-s l = left l.s
