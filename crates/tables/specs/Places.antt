-- Where the body of a tactic stands in the table's file: P1, "the waiting terms" of a halted run.
use Rattle.std.specs.Prelude.{ℕ, ◌+◌, cond, List, [], ◌∷◌}
use Rattle.format.specs.declared.values.TacticNo.{TacticNo}
use Rattle.tables.specs.Tables.{Definition, Table}
use Rattle.tables.specs.Lookup.{same_tactic}
use Rattle.tables.specs.Repeats.{definition_size, rules_size}

-- of the first definition of that tactic; behind the last one if there is none
unfoldable pub body_place_in : (at : ℕ) → List Definition → TacticNo → ℕ
body_place_in at [] n = at
body_place_in at (d ∷ ds) n = cond (same_tactic n d.tactic) (at + 5) (body_place_in (at + definition_size d) ds n)

unfoldable pub body_place : Table → TacticNo → ℕ
body_place T n = body_place_in (rules_size T.rules) T.definitions n
