-- `plan::plan_open` meets its contract: the mark alone is stored.
-- Assumes nothing.
use native.Mathlib.Omega.{arith}
use Rattle.writer.proofs.PlanLaws.{marked}
use Rattle.writer.proofs.plan.plan_open.Goals as goal

pub returns : goal.returns
returns c = marked _ _ _ (omega (arith, c.requires, c.told-plan))
