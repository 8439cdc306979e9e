-- `TermState::reduce` meets its contract. The invariant: for every term and frames that were held at first, those that are held now come to the same.
-- Assumes nothing.
use mathlib.Core.Path.{◌≡◌}
use mathlib.Core.List.{List}
use Prim.Native.Nat.{◌*◌, ◌-◌, ◌≤◌}
use lib.ListN.{length}
use Rattle.format.specs.Terms.{Term}
use Rattle.notation.specs.FromRight.{Frame}
use Rattle.text_reader.specs.Held.{frames_end, ShownHad, Reduced, waits}
use Rattle.text_reader.proofs.term.TermState.reduce.Given as goal

abbrev pub invariant-loop-out : goal.invariant-loop-out
invariant-loop-out l =
    (length l.out ≡ length l.initial.out) × (l.initial.here.low ≤ l.here.low) × (l.here.low ≤ frames_end)
    × ((t : Term) (fs : List Frame) → ShownHad t fs l.work l.initial.out l.initial.here.front l.initial.here.stop l.initial.here.low → 3 * waits fs ≤ l.initial.here.front → Reduced l.least t fs l.work l.out l.here.front l.here.stop l.here.low)

abbrev pub decreases-loop-out : goal.decreases-loop-out
decreases-loop-out l = frames_end - l.here.low
