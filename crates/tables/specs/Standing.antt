-- What it is for a table to stand in a file: how code that walks over bytes speaks of rules and definitions.
use Rattle.std.specs.Prelude.{ℕ, ◌+◌, ◌*◌, ◌≤◌, ◌≡◌, List, [], ◌∷◌, length}
use Rattle.words.specs.Word.{word}
use Rattle.format.specs.Goals.{goals_at}
use Rattle.format.specs.Terms.{size}
use Rattle.format.specs.Standing.{Head, Stands}
use Rattle.tables.specs.Tables.{Rule, Definition, Table}
use Rattle.tables.specs.Repeats.{rule_size, definition_size}

-- the field of a rule, "name, goal, then 0 to 8 premise goals"
pub record RuleStands (s : List ℕ) (at : ℕ) (r : Rule) : Type 0 where
  pub head : Head s at 1 (4 + length r.premises * 2)
  pub few : length r.premises ≤ 8
  pub name_is : word s (at + 3) ≡ r.name.0
  pub goal_is : word s (at + 5) ≡ r.goal.0
  pub premises_are : goals_at s (at + 7) (length r.premises) ≡ r.premises

-- the field of a definition, "tactic number, one term"
pub record DefinitionStands (s : List ℕ) (at : ℕ) (d : Definition) : Type 0 where
  pub head : Head s at 2 (2 + size d.body)
  pub tactic_is : word s (at + 3) ≡ d.tactic.0
  pub body_stands : Stands s (at + 5) d.body

-- values stand one behind the other from a place to another
unfoldable pub InRow : {A : Type 0} → (stands : ℕ → A → Type 0) → (size_of : A → ℕ) → (from : ℕ) → List A → (to : ℕ) → Type 0
InRow stands size_of from [] to = from ≡ to
InRow stands size_of from (x ∷ xs) to = stands from x × InRow stands size_of (from + size_of x) xs to

abbrev pub RulesStand : List ℕ → (from : ℕ) → List Rule → (to : ℕ) → Type 0
RulesStand s = InRow (RuleStands s) rule_size

abbrev pub DefinitionsStand : List ℕ → (from : ℕ) → List Definition → (to : ℕ) → Type 0
DefinitionsStand s = InRow (DefinitionStands s) definition_size

-- "any rules, then any definitions", the first of these at a place
pub record TableStands (s : List ℕ) (first : ℕ) (T : Table) : Type 0 where
  pub rules_stand : RulesStand s 0 T.rules first
  pub definitions_stand : DefinitionsStand s first T.definitions (length s)
