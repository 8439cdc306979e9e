-- `term::write_term` meets its contract. The invariant: the state of the marks from the place on is held, and the marks before it stand as they did.
-- Assumes nothing.
use mathlib.Core.Path.{◌≡◌}
use mathlib.Core.List.{List}
use Prim.Native.Nat.{◌≤◌}
use lib.ListN.{length, drop}
use Rattle.notation.specs.Marks.{Mark}
use Rattle.notation.specs.FromRight.{state_of}
use Rattle.text_reader.specs.MarkList.{MarksStand}
use Rattle.text_reader.specs.Held.{Shown, Prepared}
use Rattle.text_reader.proofs.term.write_term.Given as goal

abbrev pub invariant-loop-at : goal.invariant-loop-at
invariant-loop-at l =
    (l.at ≤ l.count) × (length l.work ≡ length l.initial.work) × (length l.out ≡ length l.initial.out)
    × ((ms : List Mark) → Prepared ms l.initial.work l.count (length l.initial.out) → MarksStand l.work ms l.at × Shown (state_of (drop l.at ms)) l.work l.out l.held.front l.held.stop l.held.low)

abbrev pub decreases-loop-at : goal.decreases-loop-at
decreases-loop-at l = l.at
