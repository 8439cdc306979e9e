-- `goals::join_goals` meets its contract: the two lists gathered behind all goals, then moved down.
-- Assumes nothing.
use Rattle.tactics.proofs.GoalLaws.{joined}
use Rattle.tactics.proofs.goals.join_goals.Goals as goal

pub returns : goal.returns
returns c =
    let a = c.args in
    let p = c.requires in
    joined a.work.now a.to a.end a.first a.n a.second a.m p.0 p.4 _ _ c.gather.ensures c.move_within.ensures
