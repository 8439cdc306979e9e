-- Document 01, "Fields": the bytes of a table.
use Rattle.std.specs.Prelude.{ℕ, List, [], ◌∷◌, ◌++◌}
use Rattle.format.specs.Encoding.{word_bytes, field_bytes, term_bytes, goal_bytes}
use Rattle.tables.specs.Tables.{Rule, Definition, Table}

-- tag 1: "name, goal, then 0 to 8 premise goals"
unfoldable pub rule_bytes : Rule → List ℕ
rule_bytes r = field_bytes 1 (word_bytes r.name.0 ++ word_bytes r.goal.0 ++ goal_bytes r.premises)

-- tag 2: "tactic number, one term"
unfoldable pub definition_bytes : Definition → List ℕ
definition_bytes d = field_bytes 2 (word_bytes d.tactic.0 ++ term_bytes d.body)

unfoldable pub rules_bytes : List Rule → List ℕ
rules_bytes [] = []
rules_bytes (r ∷ rs) = rule_bytes r ++ rules_bytes rs

unfoldable pub definitions_bytes : List Definition → List ℕ
definitions_bytes [] = []
definitions_bytes (d ∷ ds) = definition_bytes d ++ definitions_bytes ds

-- "Table file: any rules, then any definitions."
unfoldable pub table_bytes : Table → List ℕ
table_bytes T = rules_bytes T.rules ++ definitions_bytes T.definitions
