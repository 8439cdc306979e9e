-- `lookup::find_rule` meets its contract. The invariant: what the search finds in the rules of a table is what it finds in those from here on, with the rules passed counted.
-- Assumes nothing.
use mathlib.Core.Path.{◌≡◌}
use mathlib.Core.List.{List}
use Prim.Native.Nat.{◌-◌, ◌≤◌}
use Rattle.tables.specs.Tables.{Rule, Table}
use Rattle.tables.specs.Lookup.{find_rule_in, find_rule}
use Rattle.tables.specs.Standing.{RulesStand, TableStands}
use Rattle.tables.proofs.lookup.find_rule.Given as goal

abbrev pub invariant-loop-at : goal.invariant-loop-at
invariant-loop-at l = ((T : Table) → TableStands l.table l.first T → (rs : List Rule) × RulesStand l.table l.at rs l.first × (find_rule T l.name l.goal ≡ find_rule_in l.number l.name l.goal rs)) × (l.number ≤ l.at)

abbrev pub decreases-loop-at : goal.decreases-loop-at
decreases-loop-at l = l.first - l.at
