-- Document 01, "Fields": rules, definitions and tables.
use Rattle.std.specs.Prelude.{ℕ, ◌≡◌, length}
use mathlib.Core.List.{List, ◌∷◌, ◌++◌, Memᴰ}
use Rattle.format.specs.declared.values.RuleName.{RuleName}
use Rattle.format.specs.declared.values.Goal.{Goal}
use Rattle.format.specs.declared.values.TacticNo.{TacticNo}
use Rattle.format.specs.Terms.{Term}

-- tag 1: "name, goal, then 0 to 8 premise goals"
pub record Rule : Type 0 where
  pub name : RuleName
  pub goal : Goal
  pub premises : List Goal

-- tag 2: "tactic number, one term"
pub record Definition : Type 0 where
  pub tactic : TacticNo
  pub body : Term

-- "Table file: any rules, then any definitions."
pub record Table : Type 0 where
  pub rules : List Rule
  pub definitions : List Definition

-- the table has a rule of that name for that goal, with those premises
abbrev pub HasRule : Table → RuleName → Goal → List Goal → Type 0
HasRule T a γ h = Memᴰ (record { name = a; goal = γ; premises = h }) T.rules

-- document 02, P6, "its number in the table, counting from 0": the rule before which so many others stand
abbrev pub NumberedRule : Table → (number : ℕ) → RuleName → Goal → List Goal → Type 0
NumberedRule T n a γ h = (before after : List Rule) × (length before ≡ n) × (T.rules ≡ before ++ record { name = a; goal = γ; premises = h } ∷ after)

-- the table defines that tactic by that body
abbrev pub Defines : Table → TacticNo → Term → Type 0
Defines T n t = Memᴰ (record { tactic = n; body = t }) T.definitions

-- no two rules of one name and goal with other premises: what refusal 6 sees to
abbrev pub UniqueRules : Table → Type 0
UniqueRules T = (a : RuleName) (γ : Goal) (g h : List Goal) → HasRule T a γ g → HasRule T a γ h → g ≡ h

-- no tactic with two bodies: what refusal 8 sees to
abbrev pub UniqueDefinitions : Table → Type 0
UniqueDefinitions T = (n : TacticNo) (t u : Term) → Defines T n t → Defines T n u → t ≡ u
