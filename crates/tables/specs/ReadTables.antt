-- Document 01, "Fields" and "What the bytes bring about": reading a table, 1, "then field by field in byte order", then 6, 7, 8, 9.
use Rattle.std.specs.Prelude.{ℕ, zero, suc, ◌+◌, ◌-◌, ◌/◌, cond, List, [], ◌∷◌, eqb, ltb, length}
use Rattle.words.specs.Word.{word}
use Rattle.format.specs.declared.refusals.Cause.TheVariants.{FieldTorn, LengthWrong}
use Rattle.format.specs.Results.{Result, gives, refused, and_then}
use Rattle.format.specs.Inputs.{of_size}
use Rattle.format.specs.Values.{rule_name, goal, tactic_no}
use Rattle.format.specs.Tags.{definition_kind, tactic_kind}
use Rattle.format.specs.Next.{full_table, lowest}
use Rattle.format.specs.Headers.{Header, header_at}
use Rattle.format.specs.ReadTerms.{ParsedTerm, read_term}
use Rattle.format.specs.Goals.{goals_at}
use Rattle.tables.specs.Tables.{Rule, Definition, Table}
use Rattle.tables.specs.Repeats.{whole_table}

-- one field of a table with the offset behind it; of a definition also the term fields so far
pub data Field : Type 0 where
  rule_field : Rule → (next : ℕ) → Field
  definition_field : Definition → (next count : ℕ) → Field

-- the rule whose field is at a place, with contents of that length
unfoldable pub rule_of : List ℕ → (at len : ℕ) → Rule
rule_of s at len = record { name = rule_name (word s (at + 3)); goal = goal (word s (at + 5)); premises = goals_at s (at + 7) (len / 2 - 2) }

-- the definition whose field is at a place and ends at `end`, once its body is read: nothing is left behind that
unfoldable pub definition_of : List ℕ → (at end : ℕ) → ParsedTerm → Result Field
definition_of s at end t =
    cond (eqb t.next end)
    (gives (definition_field (record { tactic = tactic_no (word s (at + 3)); body = t.term }) t.next t.count))
    (refused LengthWrong at)

-- the field at a place, once its header is read
unfoldable pub field_of : List ℕ → (at count : ℕ) → Header → Result Field
field_of s at n h =
    cond (eqb h.tag 1) (gives (rule_field (rule_of s at h.len) (at + 3 + h.len)))
    (and_then (read_term (h.len + 1) s tactic_kind (at + 5) (at + 3 + h.len) n) (definition_of s at (at + 3 + h.len)))

-- the field at a place, after so many rules, definitions and term fields
unfoldable pub read_field : List ℕ → (at rules definitions count : ℕ) → Result Field
read_field s at r d n = and_then (header_at s at (length s) (lowest d) definition_kind (full_table s at r d)) (field_of s at n)

-- a rule, or a definition, in front of what is read behind it
unfoldable pub with_rule : Rule → Result Table → Result Table
with_rule r x = and_then x (λ T. gives (record { rules = r ∷ T.rules; definitions = T.definitions }))

unfoldable pub with_definition : Definition → Result Table → Result Table
with_definition d x = and_then x (λ T. gives (record { rules = T.rules; definitions = d ∷ T.definitions }))

-- the fields from one on, once it is read; rec reads those behind it
unfoldable pub fields_of : (rec : ℕ → ℕ → ℕ → ℕ → Result Table) → (rules definitions count : ℕ) → Field → Result Table
fields_of rec r d n (rule_field x next) = with_rule x (rec next (r + 1) d n)
fields_of rec r d n (definition_field x next m) = with_definition x (rec next r (d + 1) m)

-- The fields from a place on. The first argument bounds their number: any above the bytes left does.
unfoldable pub read_fields : (bound : ℕ) → List ℕ → (at rules definitions count : ℕ) → Result Table
read_fields zero s at r d n = refused FieldTorn at
read_fields (suc b) s at r d n =
    cond (ltb at (length s)) (and_then (read_field s at r d n) (fields_of (read_fields b s) r d n)) (gives (record { rules = []; definitions = [] }))

-- "Table file": "Zero bytes is a table with neither."
unfoldable pub read_table : List ℕ → Result Table
read_table s = of_size s (and_then (read_fields (length s + 1) s 0 0 0 0) whole_table)
