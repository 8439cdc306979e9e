-- What the code keeps of reading a goal list: cause and place of a refusal, or the number of goals and the offset behind the list.
use Rattle.std.specs.Prelude.{ℕ}
use Rattle.format.specs.Refusals.{Cause}

pub data GoalsRead : Type 0 where
  Refused : Cause → (place : ℕ) → GoalsRead
  Read : (count next : ℕ) → GoalsRead
