-- `seek::seek` meets its contract. The invariant: the search from the head's node goes on as the one from here; the nodes on the way have higher and higher numbers.
-- Assumes nothing.
use Prim.Native.Nat.{ℕ, ◌-◌}
use lib.ListN.{length}
use Rattle.index.specs.Index.{Sound}
use Rattle.index.proofs.SeekLaws.{Way}
use Rattle.index.proofs.seek.seek.Given as goal

abbrev pub invariant-loop-kind : goal.invariant-loop-kind
invariant-loop-kind l = (n : ℕ) → Sound l.kind l.s l.w l.base n → Way l.kind l.s l.w l.base n l.value l.more l.rest l.node

abbrev pub decreases-loop-kind : goal.decreases-loop-kind
decreases-loop-kind l = length l.w - l.node
