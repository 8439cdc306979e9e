-- `lent::is_digest`: the digest so far is below its modulus.
-- Assumes nothing.
use Prim.Native.Nat.{◌<◌}
use Rattle.replay.proofs.lent.is_digest.Given as goal

abbrev pub invariant-loop-b : goal.invariant-loop-b
invariant-loop-b l = l.d < 4294967291
