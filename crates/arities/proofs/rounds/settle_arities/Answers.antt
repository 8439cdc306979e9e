-- `rounds::settle_arities` meets its contract: every turn is a round.
-- Assumes nothing.
use native.Mathlib.Omega.{arith}
use Rattle.arities.proofs.FillLaws.{fill_out}
use Rattle.arities.proofs.rounds.settle_arities.Goals as goal

pub returns : goal.returns
returns c = fill_out c.args.table.now c.args.first c.args.definitions c.args.work.now c.loop.work c.loop.counter (omega (arith, c.loop-test.false, c.loop.auto)) c.loop.invariant
