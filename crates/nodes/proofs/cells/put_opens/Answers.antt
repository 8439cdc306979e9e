-- `cells::put_opens` meets its contract: what is stored so far and the rest of the goals make all of them.
-- Assumes nothing.
use mathlib.Core.Path.{sym, ◌∙◌}
use native.Mathlib.Omega.{arith}
use Rattle.nodes.proofs.SpaceLaws.{opens_moved, opens_turn, opens_end}
use Rattle.nodes.proofs.cells.put_opens.Goals as goal

pub loop-i-init : goal.loop-i-init
loop-i-init c = opens_moved _ _ _ _ _ _ _ _ (omega arith) (omega arith) (omega arith)

pub loop-i-preserved : goal.loop-i-preserved
loop-i-preserved c = c.loop-i.invariant ∙ opens_turn _ _ _ _ _ _ _ _ _ _ c.load16.ensures c.store16.ensures c.store16-in-loop-i.ensures (omega arith) _ (omega arith) (omega arith)

pub returns : goal.returns
returns c = sym (c.loop-i.invariant ∙ opens_end _ _ _ _ _ (omega arith))
