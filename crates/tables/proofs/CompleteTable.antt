-- A table that stands in a file, within the limits of fields, is what its fields read as: by induction over the definitions, then over the rules.
-- Assumes nothing.
use mathlib.Core.Path.{◌≡◌, sym, subst, ap, ap₂, ◌∙◌}
use mathlib.Core.Bool.{Bool, true, false, cond}
use mathlib.Core.List.{List, [], ◌∷◌}
use Prim.Native.Nat.{ℕ, zero, suc, ◌+◌, ◌*◌, ◌-◌, ◌/◌, ◌≤◌, ◌<◌}
use native.Mathlib.Omega.{arith}
use lib.Dec.{eqb}
use lib.ListN.{length, get_or}
use borrow.Author.Tests.{eq-eqb, ne_eqb, lt-ltb, le-ltb, lt-leb}
use Rattle.format.specs.Limits.{most_rules, most_definitions, most_term_fields}
use Rattle.format.specs.Results.{gives, and_then}
use Rattle.format.specs.Values.{tactic_no}
use Rattle.format.specs.Tags.{rows, find_row, row_of, kind_of, least_of, most_of, inner_of, rule_kind, definition_kind, tactic_kind}
use Rattle.format.specs.Next.{full_table, lowest}
use Rattle.format.specs.Headers.{header, header_at}
use Rattle.format.specs.Terms.{size, fields}
use Rattle.format.specs.ReadTerms.{parsed_term, read_term}
use Rattle.format.specs.Goals.{goals_at}
use Rattle.format.specs.Encoding.{Bytes}
use Rattle.format.proofs.HeaderLaws.{field_at}
use Rattle.format.proofs.GoalBytes.{word_value}
use Rattle.format.proofs.Complete.{complete}
use Rattle.tables.specs.Tables.{Rule, Definition, Table}
use Rattle.tables.specs.Repeats.{rule_size, definition_size}
use Rattle.tables.specs.ReadTables.{rule_field, definition_field, rule_of, definition_of, field_of, read_field, with_rule, with_definition, fields_of, read_fields}
use Rattle.tables.specs.Standing.{RuleStands, DefinitionStands, InRow, RulesStand, DefinitionsStand, TableStands}
use Rattle.tables.specs.Within.{body_fields}
use Rattle.tables.proofs.RowLaws as row

lowest_most : (d : ℕ) → lowest d ≤ definition_kind
unfolding lowest
lowest_most d = go (eqb d 0)
  where
    go : (b : Bool) → cond b rule_kind definition_kind ≤ definition_kind
    go true = omega arith
    go false = omega arith

abbrev table : List Rule → List Definition → Table
table rs ds = record { rules = rs; definitions = ds }

module _ (s : List ℕ) (bytes : Bytes s) where
  -- the field of a rule
  rule_header : (at r : ℕ) (x : Rule) → RuleStands s at x → r < most_rules → header_at s at (length s) (lowest 0) definition_kind (full_table s at r 0) ≡ gives (header 1 (4 + length x.premises * 2))
  unfolding lowest full_table kind_of least_of most_of inner_of row_of find_row rows
  rule_header at r x st m =
      field_at s at (length s) rule_kind definition_kind _ 1 (4 + length x.premises * 2) st.head.tag_is st.head.length_is st.head.inside
      (omega arith) (omega arith) (rw (eq-eqb _ _ st.head.tag_is) (lt-leb most_rules r m)) (omega arith) (omega (arith, st.few)) (λ e. omega arith)

  rule_is : (at : ℕ) (x : Rule) → RuleStands s at x → rule_of s at (4 + length x.premises * 2) ≡ x
  unfolding rule_of
  rule_is at x st =
      let k : (4 + length x.premises * 2) / 2 - 2 ≡ length x.premises = omega arith in
      let g : goals_at s (at + 7) ((4 + length x.premises * 2) / 2 - 2) ≡ x.premises = ap (λ (j : ℕ). goals_at s (at + 7) j) k ∙ st.premises_are in
      λ i. record { name = record { 0 = st.name_is i }; goal = record { 0 = st.goal_is i }; premises = g i }

  rule_reads : (at r n : ℕ) (x : Rule) → RuleStands s at x → r < most_rules → read_field s at r 0 n ≡ gives (rule_field x (at + rule_size x))
  unfolding read_field and_then field_of rule_size
  rule_reads at r n x st m =
      let e : at + 3 + (4 + length x.premises * 2) ≡ at + (7 + length x.premises * 2) = omega arith in
      rw (rule_header at r x st m) (ap₂ (λ (y : Rule) (j : ℕ). gives (rule_field y j)) (rule_is at x st) e)

  -- the field of a definition
  definition_header : (at r d : ℕ) (x : Definition) → DefinitionStands s at x → d < most_definitions → header_at s at (length s) (lowest d) definition_kind (full_table s at r d) ≡ gives (header 2 (2 + size x.body))
  unfolding full_table kind_of least_of most_of inner_of row_of find_row rows
  definition_header at r d x st m =
      field_at s at (length s) (lowest d) definition_kind _ 2 (2 + size x.body) st.head.tag_is st.head.length_is st.head.inside
      (lowest_most d) (omega arith) (rw (ne_eqb (get_or s at 0) 1 (λ e. omega (arith, st.head.tag_is))) (lt-leb most_definitions d m)) (omega arith) (omega (arith, word_value s bytes (at + 1), st.head.length_is)) (λ e. absurd (omega arith))

  body_reads : (at n : ℕ) (x : Definition) → DefinitionStands s at x → n + fields x.body ≤ most_term_fields
      → read_term (2 + size x.body + 1) s tactic_kind (at + 5) (at + 3 + (2 + size x.body)) n ≡ gives (parsed_term x.body (at + 5 + size x.body) (n + fields x.body))
  body_reads at n x st m =
      complete s bytes tactic_kind (omega arith) x.body (2 + size x.body + 1) (at + 5) (at + 3 + (2 + size x.body)) n st.body_stands (λ l. absurd (omega arith)) (omega arith) m (omega arith)

  definition_reads : (at r d n : ℕ) (x : Definition) → DefinitionStands s at x → d < most_definitions → n + fields x.body ≤ most_term_fields
      → read_field s at r d n ≡ gives (definition_field x (at + definition_size x) (n + fields x.body))
  unfolding read_field and_then field_of definition_of definition_size
  definition_reads at r d n x st m l =
      let t = x.body in
      let e : at + 5 + size t ≡ at + 3 + (2 + size t) = omega arith in
      let c : at + 5 + size t ≡ at + (5 + size t) = omega arith in
      rw (definition_header at r d x st m)
      (simp (body_reads at n x st l, eq-eqb _ _ e)
      (ap₂ (λ (v j : ℕ). gives (definition_field (record { tactic = tactic_no v; body = t }) j (n + fields t))) st.tactic_is c))

  step : (f at r d n : ℕ) → at < length s → read_fields (suc f) s at r d n ≡ and_then (read_field s at r d n) (fields_of (read_fields f s) r d n)
  unfolding read_fields
  step f at r d n l = rw (lt-ltb at (length s) l)

  definitions_read : (ds : List Definition) (b at r d n : ℕ) → DefinitionsStand s at ds (length s) → d + length ds ≤ most_definitions → n + body_fields ds ≤ most_term_fields → length s - at < b → read_fields b s at r d n ≡ gives (table [] ds)
  unfolding InRow body_fields read_fields and_then fields_of with_definition definition_size
  definitions_read ds zero at r d n st m l h = absurd (omega arith)
  definitions_read [] (suc b) at r d n st m l h = rw (le-ltb at (length s) (omega arith))
  definitions_read (x ∷ ds) (suc b) at r d n st m l h =
      let i = row.row_le (DefinitionStands s) definition_size ds (at + definition_size x) (length s) st.1 in
      step b at r d n (omega arith)
      ∙ rw (definition_reads at r d n x st.0 (omega arith) (omega arith), definitions_read ds b (at + definition_size x) r (d + 1) (n + fields x.body) st.1 (omega arith) (omega arith) (omega arith))

  rules_read : (rs : List Rule) (ds : List Definition) (first b at r : ℕ) → RulesStand s at rs first → DefinitionsStand s first ds (length s) → r + length rs ≤ most_rules → length ds ≤ most_definitions → body_fields ds ≤ most_term_fields
      → length s - at < b → read_fields b s at r 0 0 ≡ gives (table rs ds)
  unfolding InRow and_then fields_of with_rule rule_size
  rules_read rs ds first zero at r st sd m k l h = absurd (omega arith)
  rules_read [] ds first (suc b) at r st sd m k l h = definitions_read ds (suc b) at r 0 0 (subst (λ (j : ℕ). DefinitionsStand s j ds (length s)) (sym st) sd) (omega arith) (omega arith) h
  rules_read (x ∷ rs) ds first (suc b) at r st sd m k l h =
      let i = row.row_le (RuleStands s) rule_size rs (at + rule_size x) first st.1 in
      let j = row.row_le (DefinitionStands s) definition_size ds first (length s) sd in
      step b at r 0 0 (omega arith)
      ∙ rw (rule_reads at r 0 x st.0 (omega arith), rules_read rs ds first b (at + rule_size x) (r + 1) st.1 sd (omega arith) k l (omega arith))

  pub table_reads : (first : ℕ) (T : Table) → TableStands s first T → length T.rules ≤ most_rules → length T.definitions ≤ most_definitions → body_fields T.definitions ≤ most_term_fields → read_fields (length s + 1) s 0 0 0 0 ≡ gives T
  table_reads first T st m k l = rules_read T.rules T.definitions first (length s + 1) 0 0 st.rules_stand st.definitions_stand (omega arith) k l (omega arith)
