-- `walk::walk` meets its contract. The invariant: the walk from the first entry on is the walk from here on over the pending goals, of which there are at most as many lists as uses so far; the set has the rules of these; outside the cursors and the set the work space is as it was.
-- The inner loop's: the search for the use's name and goal comes to this node.
-- Assumes nothing.
use mathlib.Core.List.{List}
use Prim.Native.Nat.{◌+◌, ◌-◌}
use lib.ListN.{length}
use Rattle.words.specs.Word.{word}
use Rattle.format.specs.Limits.{most_rules}
use Rattle.format.specs.Goals.{goals_at}
use Rattle.tables.specs.Tables.{Table}
use Rattle.files.specs.Derivations.{Entry}
use Rattle.hitac.specs.FlatWalk.{flat_walk}
use Rattle.derivation.specs.Pending.{first_entry, pending_in}
use Rattle.derivation.specs.Walks.{Given}
use Rattle.derivation.proofs.RuleLaws.{Descends}
use Rattle.derivation.proofs.WalkLaws.{Keeps, Reached}
use Rattle.derivation.proofs.walk.walk.Given as goal

abbrev pub invariant-loop-place : goal.invariant-loop-place
invariant-loop-place l = Descends l.table l.work (word l.flat (l.at + 3)) (word l.flat (l.at + 5)) l.rest l.node

abbrev pub decreases-loop-place : goal.decreases-loop-place
decreases-loop-place l = most_rules - l.node

abbrev pub invariant-walk : goal.invariant-walk
invariant-walk l =
    Keeps l.table l.flat l.roots l.initial.work l.work l.pending
    × ((T : Table) (es : List Entry) → Given l.table l.rules l.flat l.roots T es → Reached T l.flat l.work es (flat_walk T (first_entry l.roots) (goals_at l.flat 3 l.roots) es) l.at l.pending.lists (pending_in l.table l.flat l.roots l.work l.pending))

abbrev pub decreases-walk : goal.decreases-walk
decreases-walk l = length l.flat - l.at
