-- Document 01, "Checking a hiproof" and "Running a tactic": the look-up of a rule and of a definition, and goal matching. Document 02, P6: a rule's number.
use Rattle.std.specs.Prelude.{ℕ, ◌+◌, Bool, cond, ◌&&◌, List, [], ◌∷◌, eqb}
use Rattle.std.proofs.Math.Option.{Option, none, some}
use Rattle.format.specs.declared.values.RuleName.{RuleName}
use Rattle.format.specs.declared.values.Goal.{Goal}
use Rattle.format.specs.declared.values.TacticNo.{TacticNo}
use Rattle.format.specs.Terms.{Term}
use Rattle.tables.specs.Tables.{Rule, Definition, Table}

abbrev pub same_name : RuleName → RuleName → Bool
same_name a b = eqb a.0 b.0

abbrev pub same_goal : Goal → Goal → Bool
same_goal γ δ = eqb γ.0 δ.0

abbrev pub same_tactic : TacticNo → TacticNo → Bool
same_tactic n m = eqb n.0 m.0

-- what is known of a rule that was found: "its number in the table, counting from 0, besides its premises"
pub record FoundRule : Type 0 where
  pub number : ℕ
  pub premises : List Goal

abbrev pub found_rule : ℕ → List Goal → FoundRule
found_rule n h = record { number = n; premises = h }

-- "a rule of that name for it": the first rule of that name and goal, in rules of which the first has that number
unfoldable pub find_rule_in : (number : ℕ) → RuleName → Goal → List Rule → Option FoundRule
find_rule_in n a γ [] = none
find_rule_in n a γ (r ∷ rs) = cond (same_name a r.name && same_goal γ r.goal) (some (found_rule n r.premises)) (find_rule_in (n + 1) a γ rs)

-- "counting from 0": rule fields alone are counted
unfoldable pub find_rule : Table → RuleName → Goal → Option FoundRule
find_rule T a γ = find_rule_in 0 a γ T.rules

-- "A defined tactic is replaced by its body": the body of the first definition of that tactic
unfoldable pub find_body_in : List Definition → TacticNo → Option Term
find_body_in [] n = none
find_body_in (d ∷ ds) n = cond (same_tactic n d.tactic) (some d.body) (find_body_in ds n)

unfoldable pub find_body : Table → TacticNo → Option Term
find_body T n = find_body_in T.definitions n

-- "Goal matching is equality": the pattern, then the goal
unfoldable pub matches : Table → (pattern : Goal) → Goal → Bool
matches T pattern γ = same_goal pattern γ
