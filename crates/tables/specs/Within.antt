-- Document 01, "Fields" and "What the bytes bring about": a table within the limits, of which none of 6, 7, 8, 9 holds.
use Rattle.std.specs.Prelude.{ℕ, ◌+◌, ◌≤◌, ◌<◌, ◌≡◌, List, [], ◌∷◌, ◌++◌, length}
use Rattle.format.specs.Limits.{most_bytes, most_rules, most_definitions, most_term_fields}
use Rattle.format.specs.Terms.{fields}
use Rattle.format.specs.Encoding.{GoalValues, TermValues}
use Rattle.tables.specs.Tables.{Rule, Definition, Table}
use Rattle.tables.specs.Repeats.{rules_size, labels_of}
use Rattle.tables.specs.TableBytes.{table_bytes}

-- term fields of all bodies
unfoldable pub body_fields : List Definition → ℕ
body_fields [] = 0
body_fields (d ∷ ds) = fields d.body + body_fields ds

-- "Values in contents are 16 bits wide", "0 to 8 premise goals"
pub record RuleWithin (r : Rule) : Type 0 where
  pub name_value : r.name.0 < 65536
  pub goal_value : r.goal.0 < 65536
  pub premise_values : GoalValues r.premises
  pub few_premises : length r.premises ≤ 8

pub record DefinitionWithin (d : Definition) : Type 0 where
  pub tactic_value : d.tactic.0 < 65536
  pub body_values : TermValues d.body

-- of every value of a list
unfoldable pub Every : {A : Type 0} → (A → Type 0) → List A → Type 0
Every P [] = Unit {0}
Every P (x ∷ xs) = P x × Every P xs

-- of every two values of a list, the first of them anywhere before the other
abbrev pub Pairs : {A : Type 0} → (A → A → Type 0) → List A → Type 0
Pairs {A} P l = (a b c : List A) (x y : A) → l ≡ a ++ (x ∷ (b ++ (y ∷ c))) → P x y

pub record TableWithin (T : Table) : Type 0 where
  pub bytes : length (table_bytes T) ≤ most_bytes
  pub rule_count : length T.rules ≤ most_rules
  pub definition_count : length T.definitions ≤ most_definitions
  pub term_count : body_fields T.definitions ≤ most_term_fields
  pub rules_within : Every RuleWithin T.rules
  pub definitions_within : Every DefinitionWithin T.definitions
  pub no_6 : Pairs (λ x y. x.name ≡ y.name → x.goal ≡ y.goal → ⊥) T.rules
  pub no_7 : Pairs (λ x y. x.name ≡ y.name → length x.premises ≡ length y.premises) T.rules
  pub no_8 : Pairs (λ x y. x.tactic ≡ y.tactic → ⊥) T.definitions
  pub no_9 : Pairs (λ x y. x.value ≡ y.value → ⊥) (labels_of (rules_size T.rules) T.definitions)
