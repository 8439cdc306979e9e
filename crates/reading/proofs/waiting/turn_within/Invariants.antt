-- `waiting::turn_within` meets its contract. The invariant: whatever came to the state before the loop comes to this one.
-- Assumes nothing.
use mathlib.Core.Path.{◌≡◌}
use mathlib.Core.List.{List}
use Prim.Native.Nat.{ℕ}
use lib.ListN.{length}
use Rattle.parts.specs.declared.state.State.{State}
use Rattle.reading.specs.Waiting.{weight, Moved}
use Rattle.reading.proofs.waiting.turn_within.Given as goal

abbrev pub invariant-loop-r : goal.invariant-loop-r
invariant-loop-r l = ((high : ℕ) (w : List ℕ) (x : State) → Moved l.s w high l.base x l.initial.work l.initial.r → Moved l.s w high l.base x l.work l.r) × (length l.work ≡ length l.initial.work)

abbrev pub decreases-loop-r : goal.decreases-loop-r
decreases-loop-r l = weight l.s l.r
