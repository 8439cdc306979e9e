-- `walks::walk` meets its contract: every turn leaves less to do.
-- Assumes nothing.
use Prim.Native.Nat.{◌-◌}
use Rattle.arity_notes.proofs.EndLaws.{Between}
use Rattle.arity_notes.proofs.walks.walk.Given as goal

abbrev pub invariant-loop : goal.invariant-loop
invariant-loop l = Between l.table l.first l.src l.base l.initial.work l.initial.s l.work l.s (65537 - l.counter)
