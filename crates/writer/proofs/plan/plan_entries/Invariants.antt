-- `plan::plan_entries` meets its contract: at each turn of the loop the entries before the place are planned.
-- Assumes nothing.
use Prim.Native.Nat.{◌-◌}
use lib.ListN.{length}
use Rattle.tables.specs.Tables.{Table}
use Rattle.tables.specs.Standing.{TableStands}
use Rattle.writer.specs.Leaves.{Rest}
use Rattle.writer.proofs.PlanTurns.{PlannedTo}
use Rattle.writer.proofs.plan.plan_entries.Given as goal

abbrev pub invariant-loop-at : goal.invariant-loop-at
invariant-loop-at l = (T : Table) (r : Rest l.flat l.from) → TableStands l.table l.rules T → PlannedTo T r l.plan l.at l.to

abbrev pub decreases-loop-at : goal.decreases-loop-at
decreases-loop-at l = length l.flat - l.at
