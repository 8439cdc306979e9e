-- The 16-bit values on the stacks: goals in the checker, node numbers in the flattener.
use Rattle.std.specs.Prelude.{ℕ, List, map}
use Rattle.format.specs.declared.values.Goal.{Goal}
use Rattle.format.specs.Goals.{goals_at}

abbrev pub value_of : Goal → ℕ
value_of γ = γ.0

-- so many values from a place on
abbrev pub values_at : List ℕ → (at count : ℕ) → List ℕ
values_at s at k = map value_of (goals_at s at k)
