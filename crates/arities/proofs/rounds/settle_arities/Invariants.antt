-- `rounds::settle_arities` meets its contract: every turn is a round.
-- Assumes nothing.
use Rattle.arities.proofs.FillLaws.{FillTurn}
use Rattle.arities.proofs.rounds.settle_arities.Given as goal

abbrev pub invariant-loop : goal.invariant-loop
invariant-loop l = FillTurn l.table l.first l.initial.work l.work l.counter
