-- `records::expand`: the pieces so far end within the vector file, and what they fill within the buffer.
-- Assumes nothing.
use Prim.Native.Nat.{◌+◌}
use lib.ListN.{length}
use Rattle.replay.specs.Bounds.{Inside}
use Rattle.replay.proofs.records.expand.Given as goal

abbrev pub invariant-loop : goal.invariant-loop
invariant-loop l = Inside l.file (l.at + 1) (length l.s) (length l.out)
