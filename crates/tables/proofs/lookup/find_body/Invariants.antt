-- `lookup::find_body` meets its contract. The invariant: what the search finds in the definitions of a table is what it finds in those from here on.
-- Assumes nothing.
use mathlib.Core.Path.{◌≡◌}
use mathlib.Core.List.{List}
use Prim.Native.Nat.{◌-◌}
use lib.ListN.{length}
use Rattle.tables.specs.Tables.{Definition, Table}
use Rattle.tables.specs.Lookup.{find_body_in, find_body}
use Rattle.tables.specs.Standing.{DefinitionsStand, TableStands}
use Rattle.tables.specs.Places.{body_place_in, body_place}
use Rattle.tables.proofs.lookup.find_body.Given as goal

abbrev pub invariant-loop-at : goal.invariant-loop-at
invariant-loop-at l = (T : Table) → TableStands l.table l.first T → (ds : List Definition) × DefinitionsStand l.table l.at ds (length l.table) × (find_body T l.tactic ≡ find_body_in ds l.tactic) × (body_place T l.tactic ≡ body_place_in l.at ds l.tactic)

abbrev pub decreases-loop-at : goal.decreases-loop-at
decreases-loop-at l = length l.table - l.at
