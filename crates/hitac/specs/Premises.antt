-- Document 01, "Fields" and "Checking a hiproof": the rules of a table as a system, by look-up, and how many premises a rule has.
use Rattle.std.specs.Prelude.{ℕ, ◌≤◌, ◌≡◌, List, length}
use Rattle.std.proofs.Math.Option.{some}
use Rattle.format.specs.declared.values.RuleName.{RuleName}
use Rattle.format.specs.declared.values.Goal.{Goal}
use Rattle.tables.specs.Tables.{Table, HasRule}
use Rattle.tables.specs.Lookup.{found_rule, find_rule}
use Rattle.hitac.specs.Validates.{System}

-- the rules that the look-up finds, whatever their numbers
abbrev pub Finds : Table → System
Finds T a γ h = (n : ℕ) × (find_rule T a γ ≡ some (found_rule n h))

-- "rule: name, goal, then 0 to 8 premise goals"
abbrev pub FewPremises : Table → Type 0
FewPremises T = (a : RuleName) (γ : Goal) (h : List Goal) → HasRule T a γ h → length h ≤ 8
