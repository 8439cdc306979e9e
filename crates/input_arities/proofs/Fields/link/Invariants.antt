-- `Fields::link` meets its contract: the links up to a place, and the next place.
-- Assumes nothing.
use mathlib.Core.Path.{◌≡◌}
use Prim.Native.Nat.{◌-◌}
use lib.ListN.{length}
use Rattle.format.specs.Terms.{Term}
use Rattle.input_arities.proofs.ThreadLaws.{Linking}
use Rattle.input_arities.specs.Threads.{Room}
use Rattle.input_arities.proofs.Fields.link.Given as goal

abbrev pub invariant-loop-next : goal.invariant-loop-next
invariant-loop-next l = (length l.work ≡ length l.initial.work) × ((t : Term) → Room l.self.s.now l.self.at l.self.end l.initial.work t → Linking l.self.at t l.initial.work l.work l.place l.next)

abbrev pub decreases-loop-next : goal.decreases-loop-next
decreases-loop-next l = l.self.end - l.next
