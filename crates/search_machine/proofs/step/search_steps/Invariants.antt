-- `search_steps` meets its contract: what is left of the run comes to the same, and every turn uses up a step.
-- Assumes nothing.
use Prim.Native.Nat.{◌-◌}
use Rattle.search_machine.proofs.RunLaws.{Way}
use Rattle.search_machine.proofs.step.search_steps.Given as goal

abbrev pub invariant-loop : goal.invariant-loop
invariant-loop l = Way l.table l.first l.job l.initial.work l.initial.s l.budget l.work l.s (l.budget - l.counter)
