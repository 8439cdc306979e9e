-- What the code keeps of reading a term: cause and place of a refusal, or the offset behind the term and the term fields so far.
use Rattle.std.specs.Prelude.{ℕ}
use Rattle.format.specs.Refusals.{Cause}

pub data TermRead : Type 0 where
  Refused : Cause → (place : ℕ) → TermRead
  Read : (next count : ℕ) → TermRead
