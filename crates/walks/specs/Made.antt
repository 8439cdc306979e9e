-- What a walk makes, by a code for each of the two walks. Definitions and laws hold for any type of it, but a contract cannot say "for any type": its statement would be of type 1, and a contract's is of type 0. Contracts say "for any of these codes".
use Rattle.std.specs.Prelude.{ℕ}
use Rattle.hitac.proofs.Nodes.{Cell}

-- the checker's walk over goals, and the flattener's over nodes
pub data WalkCode : Type 0 where
  overGoals overNodes : WalkCode

-- rule numbers in the checker, cells in the flattener
abbrev pub Made : WalkCode → Type 0
Made overGoals = ℕ
Made overNodes = Cell
