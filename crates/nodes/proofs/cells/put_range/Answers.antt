-- `cells::put_range` meets its contract: what is stored so far and the rest of the row make the whole row.
-- Assumes nothing.
use mathlib.Core.Path.{sym, ◌∙◌}
use native.Mathlib.Omega.{arith}
use Rattle.nodes.proofs.SpaceLaws.{range_moved, range_turn, range_end}
use Rattle.nodes.proofs.cells.put_range.Goals as goal

pub loop-i-init : goal.loop-i-init
loop-i-init c = range_moved _ _ _ _ _ _ _ (omega arith) (omega arith) (omega arith)

pub loop-i-preserved : goal.loop-i-preserved
loop-i-preserved c = c.loop-i.invariant ∙ range_turn _ _ _ _ _ _ _ _ c.store16.ensures (omega arith) (omega arith) (omega arith)

pub returns : goal.returns
returns c = sym (c.loop-i.invariant ∙ range_end _ _ _ _ (omega arith))
