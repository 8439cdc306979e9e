-- `decide::each_same` meets its contract.
-- Assumes nothing.
use Rattle.std.proofs.Common.{arith, rules}
use Rattle.std.proofs.lemmas.Grind.{common_steps}
use Rattle.std.proofs.iter.runs.Sources.{ranges}
use Rattle.checker.proofs.decide.each_same.Goals as goal

-- the item of number k is k, and the closure answered true there
pub returns-clause-same : goal.returns-clause-same
returns-clause-same c = λ r k l.
    let told = rw r at c.all.ensures.runs.2 in
    let here = told.1 (λ a v f q. search rules) k in
    grind (arith, common_steps, ranges)
