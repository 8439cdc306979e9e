-- `cells::put_opens` meets its contract: what is stored so far and the rest of the goals make all of them.
-- Assumes nothing.
use mathlib.Core.Path.{◌≡◌}
use Prim.Native.Nat.{◌+◌, ◌*◌, ◌-◌}
use Rattle.format.specs.Goals.{goals_at}
use Rattle.nodes.specs.Space.{put_opens}
use Rattle.nodes.proofs.cells.put_opens.Given as goal

abbrev pub invariant-loop-i : goal.invariant-loop-i
invariant-loop-i l = put_opens l.initial.s l.node (goals_at l.file l.place l.count) ≡ put_opens l.s (l.node + l.i) (goals_at l.file (l.place + l.i * 2) (l.count - l.i))
