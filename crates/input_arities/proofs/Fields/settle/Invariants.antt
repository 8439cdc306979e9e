-- `Fields::settle` meets its contract: the fields behind a place have their own arities, the others their links.
-- Assumes nothing.
use mathlib.Core.Path.{◌≡◌}
use mathlib.Core.List.{List}
use Prim.Native.Nat.{ℕ}
use lib.ListN.{length}
use Rattle.format.specs.Terms.{Term}
use Rattle.input_arities.proofs.ThreadLaws.{Settling}
use Rattle.input_arities.specs.Threads.{Room, Threads}
use Rattle.input_arities.proofs.Fields.settle.Given as goal

abbrev pub invariant-loop-place : goal.invariant-loop-place
invariant-loop-place l = (length l.work ≡ length l.initial.work) × ((t : Term) (w : List ℕ) → Room l.self.s.now l.self.at l.self.end l.initial.work t → Threads l.self.at l.self.end t w l.initial.work l.last → Settling l.self.at t l.initial.work l.work l.place)

abbrev pub decreases-loop-place : goal.decreases-loop-place
decreases-loop-place l = l.place
