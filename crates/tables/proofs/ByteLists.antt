-- The encoding of a table within the limits is a list of bytes: by format's laws for the values, the goals and the terms in it.
-- Assumes nothing.
use mathlib.Core.List.{List, [], ◌∷◌, ◌++◌}
use Prim.Native.Nat.{◌≤◌}
use native.Mathlib.Omega.{arith}
use lib.ListN.{length, length-append}
use Rattle.format.specs.Limits.{most_bytes}
use Rattle.format.specs.Encoding.{Bytes, word_bytes, term_bytes, goal_bytes}
use Rattle.format.proofs.GoalBytes.{length-goal_bytes}
use Rattle.format.proofs.Encoded.{length-term_bytes}
use Rattle.format.proofs.EncodedBytes.{nil_bytes, append_bytes, word_bytes_lem, field_is_bytes, goals_are_bytes, term_is_bytes}
use Rattle.tables.specs.Tables.{Rule, Definition, Table}
use Rattle.tables.specs.TableBytes.{rule_bytes, definition_bytes, rules_bytes, definitions_bytes, table_bytes}
use Rattle.tables.specs.Within.{RuleWithin, DefinitionWithin, Every, TableWithin}

rule_bytes_lem : (r : Rule) → RuleWithin r → Bytes (rule_bytes r)
unfolding rule_bytes
rule_bytes_lem r w =
    field_is_bytes 1 (word_bytes r.name.0 ++ word_bytes r.goal.0 ++ goal_bytes r.premises) (omega arith) (omega (arith, length-goal_bytes r.premises, w.few_premises))
    (append_bytes (word_bytes r.name.0 ++ word_bytes r.goal.0) (goal_bytes r.premises)
    (append_bytes (word_bytes r.name.0) (word_bytes r.goal.0) (word_bytes_lem r.name.0 w.name_value) (word_bytes_lem r.goal.0 w.goal_value))
    (goals_are_bytes r.premises w.premise_values))

definition_bytes_lem : (d : Definition) → DefinitionWithin d → length (definition_bytes d) ≤ most_bytes → Bytes (definition_bytes d)
unfolding definition_bytes
definition_bytes_lem d w h =
    field_is_bytes 2 (word_bytes d.tactic.0 ++ term_bytes d.body) (omega arith) (omega arith)
    (append_bytes (word_bytes d.tactic.0) (term_bytes d.body) (word_bytes_lem d.tactic.0 w.tactic_value) (term_is_bytes d.body w.body_values (omega (arith, length-term_bytes d.body))))

rules_bytes_lem : (rs : List Rule) → Every RuleWithin rs → Bytes (rules_bytes rs)
unfolding rules_bytes Every
rules_bytes_lem [] w = nil_bytes
rules_bytes_lem (r ∷ rs) w = append_bytes (rule_bytes r) (rules_bytes rs) (rule_bytes_lem r w.0) (rules_bytes_lem rs w.1)

definitions_bytes_lem : (ds : List Definition) → Every DefinitionWithin ds → length (definitions_bytes ds) ≤ most_bytes → Bytes (definitions_bytes ds)
unfolding definitions_bytes Every
definitions_bytes_lem [] w h = nil_bytes
definitions_bytes_lem (d ∷ ds) w h =
    let l = length-append (definition_bytes d) (definitions_bytes ds) in
    append_bytes (definition_bytes d) (definitions_bytes ds) (definition_bytes_lem d w.0 (omega (arith, l))) (definitions_bytes_lem ds w.1 (omega (arith, l)))

pub table_bytes_lem : (T : Table) → TableWithin T → Bytes (table_bytes T)
unfolding table_bytes
table_bytes_lem T w =
    let l = length-append (rules_bytes T.rules) (definitions_bytes T.definitions) in
    append_bytes (rules_bytes T.rules) (definitions_bytes T.definitions) (rules_bytes_lem T.rules w.rules_within) (definitions_bytes_lem T.definitions w.definitions_within (omega (arith, l, w.bytes)))
