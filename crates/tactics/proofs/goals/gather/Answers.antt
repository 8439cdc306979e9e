-- `goals::gather` meets its contract: two moves, the second behind the first.
-- Assumes nothing.
use Rattle.tactics.proofs.GoalLaws.{gathered}
use Rattle.tactics.proofs.goals.gather.Goals as goal

pub returns : goal.returns
returns c =
    let a = c.args in
    let p = c.requires in
    gathered a.work.now a.to a.first a.n a.second a.m p.0 p.1 p.3 _ _ c.move_within.ensures c.move_within-2.ensures
