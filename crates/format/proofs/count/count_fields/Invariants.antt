-- `count::count_fields` meets its contract. The invariant: the headers up to here are counted, and the others of the term are ahead.
-- Assumes nothing.
use Prim.Native.Nat.{◌-◌}
use Rattle.format.proofs.CountingLaws.{Counting}
use Rattle.format.proofs.count.count_fields.Given as goal

abbrev pub invariant-loop-place : goal.invariant-loop-place
invariant-loop-place l = Counting l.bytes l.at l.end l.place l.count

abbrev pub decreases-loop-place : goal.decreases-loop-place
decreases-loop-place l = l.end - l.place
