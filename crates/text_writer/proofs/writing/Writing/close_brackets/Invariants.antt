-- `Writing::close_brackets` meets its contract: every turn of the loop closes the bracket on top. The invariant: for every file, text and frames that follow at first, some of the frames follow now.
-- Assumes nothing.
use mathlib.Core.Path.{◌≡◌}
use mathlib.Core.List.{List}
use Prim.Native.Nat.{ℕ}
use lib.ListN.{length}
use Rattle.text_writer.specs.Stack.{Frame, bracket_on_top}
use Rattle.text_writer.specs.Writing.{Rests, Settled}
use Rattle.text_writer.proofs.writing.Writing.close_brackets.Given as goal

abbrev pub invariant-loop-work : goal.invariant-loop-work
invariant-loop-work l =
    (length l.work ≡ length l.initial.work)
    × ((s whole : List ℕ) (fs : List Frame) → Rests s whole l.initial.work l.initial.y fs → Settled s whole l.work l.initial.y l.y (bracket_on_top l.work l.y.top))

abbrev pub decreases-loop-work : goal.decreases-loop-work
decreases-loop-work l = l.y.top
