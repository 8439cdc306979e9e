-- A table that stands in a file of bytes is its encoding there, and its values are of 16 bits: field by field, by induction over the rules and the definitions.
-- Assumes nothing.
use mathlib.Core.Path.{◌≡◌, refl, sym, subst, ap, ap₂, ◌∙◌}
use mathlib.Core.List.{List, [], ◌∷◌, ◌++◌, append_assoc, append-nil}
use Prim.Native.Nat.{ℕ, ◌+◌, ◌*◌}
use native.Mathlib.Omega.{arith}
use lib.ListN.{length, drop}
use lib.Seq.{drop-length}
use Rattle.format.specs.declared.values.Goal.{Goal}
use Rattle.format.specs.Terms.{size}
use Rattle.format.specs.Encoding.{Bytes, word_bytes, field_bytes, term_bytes, goal_bytes, GoalValues}
use Rattle.format.proofs.FieldBytes.{value_bytes, field_bytes_lem}
use Rattle.format.proofs.GoalBytes.{length-goal_bytes, word_value, goal_values, goals_bytes}
use Rattle.format.proofs.Encoded.{length-term_bytes, term_bytes_lem}
use Rattle.format.proofs.TermBytes.{values_stand}
use Rattle.tables.specs.Tables.{Rule, Definition, Table}
use Rattle.tables.specs.Repeats.{rule_size, definition_size}
use Rattle.tables.specs.TableBytes.{rule_bytes, definition_bytes, rules_bytes, definitions_bytes, table_bytes}
use Rattle.tables.specs.Standing.{RuleStands, DefinitionStands, InRow, RulesStand, DefinitionsStand, TableStands}
use Rattle.tables.specs.Within.{RuleWithin, DefinitionWithin, Every}

-- a row is the bytes of its values, and what holds of each value that stands holds of all
module _ {A : Type 0} (stands : ℕ → A → Type 0) (size_of : A → ℕ) where
  row_every : (P : A → Type 0) → ((at : ℕ) (x : A) → stands at x → P x) → (xs : List A) (from to : ℕ) → InRow stands size_of from xs to → Every P xs
  unfolding InRow Every
  row_every P h [] from to row = tt
  row_every P h (x ∷ xs) from to row = (h from x row.0, row_every P h xs (from + size_of x) to row.1)

  module _ (s : List ℕ) (bytes_of : A → List ℕ) (all_bytes : List A → List ℕ) (nil : all_bytes [] ≡ []) (cons : (x : A) (xs : List A) → all_bytes (x ∷ xs) ≡ bytes_of x ++ all_bytes xs)
      (one : (at : ℕ) (x : A) → stands at x → drop at s ≡ bytes_of x ++ drop (at + size_of x) s) where
    row_bytes : (xs : List A) (from to : ℕ) → InRow stands size_of from xs to → drop from s ≡ all_bytes xs ++ drop to s
    unfolding InRow
    row_bytes [] from to e = rw nil (ap (λ (j : ℕ). drop j s) e)
    row_bytes (x ∷ xs) from to row =
        one from x row.0 ∙ ap (λ (m : List ℕ). bytes_of x ++ m) (row_bytes xs (from + size_of x) to row.1)
        ∙ sym (append_assoc (bytes_of x) (all_bytes xs) (drop to s)) ∙ ap (λ (m : List ℕ). m ++ drop to s) (sym (cons x xs))

module _ (s : List ℕ) (bytes : Bytes s) where
  goals_part : (at : ℕ) (r : Rule) → RuleStands s at r → drop (at + 7) s ≡ goal_bytes r.premises ++ drop (at + 3 + (4 + length r.premises * 2)) s
  goals_part at r st =
      let k = length r.premises in
      let d : at + 7 + k * 2 ≡ at + 3 + (4 + k * 2) = omega arith in
      goals_bytes s bytes k (at + 7) (omega (arith, st.head)) ∙ ap₂ (λ (g : List Goal) (j : ℕ). goal_bytes g ++ drop j s) st.premises_are d

  rule_bytes_lem : (at : ℕ) (r : Rule) → RuleStands s at r → drop at s ≡ rule_bytes r ++ drop (at + rule_size r) s
  unfolding rule_bytes rule_size
  rule_bytes_lem at r st =
      let k = length r.premises in
      let n = r.name.0 in
      let g = r.goal.0 in
      let a : at + 3 + 2 ≡ at + 5 = omega arith in
      let b : at + 5 + 2 ≡ at + 7 = omega arith in
      let c : at + 3 + (4 + k * 2) ≡ at + (7 + k * 2) = omega arith in
      subst (λ (j : ℕ). drop at s ≡ field_bytes 1 (word_bytes n ++ word_bytes g ++ goal_bytes r.premises) ++ drop j s) c
      (field_bytes_lem s bytes at 1 (4 + k * 2) (word_bytes n ++ word_bytes g ++ goal_bytes r.premises) st.head (omega (arith, length-goal_bytes r.premises))
      (value_bytes s bytes (at + 3) n st.name_is (omega (arith, st.head))
      ∙ ap (λ (m : List ℕ). word_bytes n ++ m)
      (ap (λ (j : ℕ). drop j s) a
      ∙ value_bytes s bytes (at + 5) g st.goal_is (omega (arith, st.head))
      ∙ ap (λ (m : List ℕ). word_bytes g ++ m) (ap (λ (j : ℕ). drop j s) b ∙ goals_part at r st))))

  definition_bytes_lem : (at : ℕ) (d : Definition) → DefinitionStands s at d → drop at s ≡ definition_bytes d ++ drop (at + definition_size d) s
  unfolding definition_bytes definition_size
  definition_bytes_lem at d st =
      let n = d.tactic.0 in
      let t = d.body in
      let a : at + 3 + 2 ≡ at + 5 = omega arith in
      let b : at + 5 + size t ≡ at + 3 + (2 + size t) = omega arith in
      let c : at + 3 + (2 + size t) ≡ at + (5 + size t) = omega arith in
      subst (λ (j : ℕ). drop at s ≡ field_bytes 2 (word_bytes n ++ term_bytes t) ++ drop j s) c
      (field_bytes_lem s bytes at 2 (2 + size t) (word_bytes n ++ term_bytes t) st.head (omega (arith, length-term_bytes t))
      (value_bytes s bytes (at + 3) n st.tactic_is (omega (arith, st.head))
      ∙ ap (λ (m : List ℕ). word_bytes n ++ m) (ap (λ (j : ℕ). drop j s) a ∙ term_bytes_lem s bytes t (at + 5) st.body_stands ∙ ap (λ (j : ℕ). term_bytes t ++ drop j s) b)))

  rules_bytes_lem : (rs : List Rule) (from to : ℕ) → RulesStand s from rs to → drop from s ≡ rules_bytes rs ++ drop to s
  unfolding rules_bytes
  rules_bytes_lem = row_bytes (RuleStands s) rule_size s rule_bytes rules_bytes refl (λ x xs. refl) rule_bytes_lem

  definitions_bytes_lem : (ds : List Definition) (from to : ℕ) → DefinitionsStand s from ds to → drop from s ≡ definitions_bytes ds ++ drop to s
  unfolding definitions_bytes
  definitions_bytes_lem = row_bytes (DefinitionStands s) definition_size s definition_bytes definitions_bytes refl (λ x xs. refl) definition_bytes_lem

  pub table_bytes_lem : (first : ℕ) (T : Table) → TableStands s first T → s ≡ table_bytes T
  unfolding table_bytes
  table_bytes_lem first T st =
      rules_bytes_lem T.rules 0 first st.rules_stand
      ∙ ap (λ (m : List ℕ). rules_bytes T.rules ++ m) (definitions_bytes_lem T.definitions first (length s) st.definitions_stand ∙ ap (λ (m : List ℕ). definitions_bytes T.definitions ++ m) (drop-length s) ∙ append-nil _)

  -- the values
  rule_within : (at : ℕ) (r : Rule) → RuleStands s at r → RuleWithin r
  rule_within at r st = record {
    name_value = omega (arith, word_value s bytes (at + 3), st.name_is);
    goal_value = omega (arith, word_value s bytes (at + 5), st.goal_is);
    premise_values = subst GoalValues st.premises_are (goal_values s bytes (length r.premises) (at + 7));
    few_premises = st.few;
  }

  definition_within : (at : ℕ) (d : Definition) → DefinitionStands s at d → DefinitionWithin d
  definition_within at d st = record {
    tactic_value = omega (arith, word_value s bytes (at + 3), st.tactic_is);
    body_values = values_stand s bytes d.body (at + 5) st.body_stands;
  }

  pub every_rule : (first : ℕ) (T : Table) → TableStands s first T → Every RuleWithin T.rules
  every_rule first T st = row_every (RuleStands s) rule_size RuleWithin rule_within T.rules 0 first st.rules_stand

  pub every_definition : (first : ℕ) (T : Table) → TableStands s first T → Every DefinitionWithin T.definitions
  every_definition first T st = row_every (DefinitionStands s) definition_size DefinitionWithin definition_within T.definitions first (length s) st.definitions_stand
