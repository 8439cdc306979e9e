-- `plan::plan_use` meets its contract: the name first, then the number behind it.
-- Assumes nothing.
use native.Mathlib.Omega.{arith}
use Rattle.writer.proofs.PlanLaws.{noted}
use Rattle.writer.proofs.plan.plan_use.Goals as goal

pub returns : goal.returns
returns c = noted c.args.plan.now _ c.args.at c.args.name.0 c.args.count (omega (arith, c.told-plan, c.requires.0)) c.store16.ensures
