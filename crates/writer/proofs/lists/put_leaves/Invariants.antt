-- `lists::put_leaves` meets its contract: at each turn of the loop the leaves before the place are written.
-- Assumes nothing.
use Prim.Native.Nat.{◌-◌}
use mathlib.Core.Path.{◌≡◌}
use lib.ListN.{length}
use Rattle.writer.specs.Leaves.{Rest}
use Rattle.writer.proofs.LeafLaws.{LeavesAt}
use Rattle.writer.proofs.lists.put_leaves.Given as goal

abbrev pub invariant-loop-here : goal.invariant-loop-here
invariant-loop-here l = (length l.out ≡ length l.initial.out) × ((p : Rest l.flat l.at) → LeavesAt l.flat l.at p l.initial.out l.out l.here l.len)

abbrev pub decreases-loop-here : goal.decreases-loop-here
decreases-loop-here l = length l.flat - l.here
