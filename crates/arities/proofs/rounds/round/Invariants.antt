-- `rounds::round` meets its contract: every turn reaches the definition at its place.
-- Assumes nothing.
use Prim.Native.Nat.{◌-◌}
use lib.ListN.{length}
use Rattle.arities.proofs.FillLaws.{RoundTurn}
use Rattle.arities.proofs.rounds.round.Given as goal

abbrev pub invariant-loop-at : goal.invariant-loop-at
invariant-loop-at l = RoundTurn l.table l.first l.initial.work l.work l.at l.changed

abbrev pub decreases-loop-at : goal.decreases-loop-at
decreases-loop-at l = length l.table - l.at
