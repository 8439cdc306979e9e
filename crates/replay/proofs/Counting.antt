-- Counts that stay within bounds.
-- Assumes nothing.
use Prim.Native.Nat.{ℕ, ◌+◌, ◌≤◌}
use native.Mathlib.Omega.{arith}
use Rattle.replay.specs.declared.tally.Tally.{Tally}
use Rattle.replay.specs.Bounds.{Below, Sum}

pub weaker : (t : Tally) (m n : ℕ) → Below t m → m ≤ n → Below t n
weaker t m n b h = record {
  cases = omega arith;
  reading = omega arith;
  calls = omega arith;
  skipped = omega arith;
  differences = omega arith;
}

pub one_more : (a b r : Tally) (m n : ℕ) → Below a m → Below b 1 → Sum a b r → m + 1 ≤ n → Below r n
one_more a b r m n p q e h = record {
  cases = omega arith;
  reading = omega arith;
  calls = omega arith;
  skipped = omega arith;
  differences = omega arith;
}
