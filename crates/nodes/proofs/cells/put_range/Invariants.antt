-- `cells::put_range` meets its contract: what is stored so far and the rest of the row make the whole row.
-- Assumes nothing.
use mathlib.Core.Path.{◌≡◌}
use Prim.Native.Nat.{◌+◌, ◌*◌, ◌-◌}
use Rattle.nodes.specs.Space.{put_range}
use Rattle.nodes.proofs.cells.put_range.Given as goal

abbrev pub invariant-loop-i : goal.invariant-loop-i
invariant-loop-i l = put_range l.initial.s l.at l.first l.count ≡ put_range l.s (l.at + l.i * 2) (l.first + l.i) (l.count - l.i)
