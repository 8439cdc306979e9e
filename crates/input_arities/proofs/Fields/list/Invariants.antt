-- `Fields::list` meets its contract: once the arities of the fields from a place on are listed, so are all.
-- Assumes nothing.
use mathlib.Core.Path.{◌≡◌}
use Prim.Native.Nat.{◌-◌}
use lib.ListN.{length}
use Rattle.format.specs.Terms.{Term}
use Rattle.input_arities.specs.Threads.{Own, Room}
use Rattle.input_arities.proofs.ListLaws.{Listing}
use Rattle.input_arities.proofs.Fields.list.Given as goal

abbrev pub invariant-loop-place : goal.invariant-loop-place
invariant-loop-place l = (length l.work ≡ length l.initial.work) × ((t : Term) → Room l.self.s.now l.self.at l.self.end l.initial.work t → Own l.initial.work l.self.at t → Listing l.self.s.now l.self.at l.self.end t l.initial.work l.work l.place l.next)

abbrev pub decreases-loop-place : goal.decreases-loop-place
decreases-loop-place l = l.self.end - l.place
