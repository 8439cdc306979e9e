-- Bytes put into a lent space from a place on: how the functions that make the check program's line say what they leave.
use Rattle.std.specs.Prelude.{ℕ, ◌+◌, ◌≡◌, List, ◌++◌, length, take, drop}
use Rattle.io.specs.Counts.{IsPrefixLen}

-- afterwards the space has the bytes from `at` up to `next`, and is as it was before and behind them; what lies up to `next` can be lent as a part
pub record Puts (space : List ℕ) (at : ℕ) (bytes after : List ℕ) (next : ℕ) : Type 0 where
  pub written : after ≡ take at space ++ bytes ++ drop next space
  pub behind : next ≡ at + length bytes
  pub inside : IsPrefixLen next after
