-- `steps::replay_records` meets its contract. The invariant: the replay stands inside the vector file and its buffers.
-- Assumes nothing.
use Prim.Native.Nat.{◌-◌, ◌≤◌}
use mathlib.Core.Path.{◌≡◌}
use lib.ListN.{length}
use Rattle.replay.specs.Bounds.{Placed}
use Rattle.replay.proofs.steps.replay_records.Given as goal

abbrev pub invariant-loop-p : goal.invariant-loop-p
invariant-loop-p g l = (length l.table ≡ length l.initial.table) × (length l.other ≡ length l.initial.other) × (length l.work ≡ length l.initial.work) × (length l.s ≤ 1000000) × Placed l.p 0 (length l.s) (length l.table) (length l.other)

abbrev pub decreases-loop-p : goal.decreases-loop-p
decreases-loop-p g l = length l.s - l.p.at
