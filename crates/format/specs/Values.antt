-- Document 01, "Fields": "A rule name, a goal, a label and a tactic number are never taken for one another, though each is 16 bits".
-- The four types are the code's tuple structs; here each is made from its number.
use Rattle.std.specs.Prelude.{ℕ}
use Rattle.format.specs.declared.values.RuleName.{RuleName}
use Rattle.format.specs.declared.values.Goal.{Goal}
use Rattle.format.specs.declared.values.Label.{Label}
use Rattle.format.specs.declared.values.TacticNo.{TacticNo}

abbrev pub rule_name : ℕ → RuleName
rule_name n = record { 0 = n }

abbrev pub goal : ℕ → Goal
goal n = record { 0 = n }

abbrev pub label_of : ℕ → Label
label_of n = record { 0 = n }

abbrev pub tactic_no : ℕ → TacticNo
tactic_no n = record { 0 = n }
