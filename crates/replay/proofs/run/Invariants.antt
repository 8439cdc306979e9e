-- `run`: no file has more than so many differences.
-- Assumes nothing.
use Prim.Native.Nat.{◌*◌, ◌≤◌}
use Rattle.replay.proofs.run.Given as goal

abbrev pub invariant-loop-name : goal.invariant-loop-name
invariant-loop-name g l = l.differences ≤ 1000001 * l.name-index
