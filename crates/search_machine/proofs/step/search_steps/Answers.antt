-- `search_steps` meets its contract: what is left of the run comes to the same, and every turn uses up a step.
-- Assumes nothing.
use Rattle.std.proofs.Common.{rules}
use native.Mathlib.Omega.{arith}
use Rattle.search_machine.proofs.RunLaws.{way_start, ran_end, ran_out, given, way_next}
use Rattle.search_machine.proofs.step.search_steps.Goals as goal

pub loop-init : goal.loop-init
loop-init c = way_start _ _ _ _ _ _ _ (omega arith)

pub returns-then-ne : goal.returns-then-ne
returns-then-ne c = ran_end _ _ _ _ _ _ _ _ _ c.loop.invariant (search rules)

pub step-s-requires : goal.step-s-requires
step-s-requires c = given _ _ _ _ _ _ _ _ _ c.loop.invariant (omega arith) (search rules) c.requires

pub loop-preserved : goal.loop-preserved
loop-preserved c = way_next _ _ _ _ _ _ _ _ _ c.loop.invariant (omega arith) (search rules) _ _ c.step-s.ensures.steps c.step-s.ensures.grown _ (omega arith)

pub returns : goal.returns
returns c = ran_out _ _ _ _ _ _ _ _ _ c.loop.invariant (omega arith)
