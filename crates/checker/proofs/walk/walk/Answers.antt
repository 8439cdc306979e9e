-- `walk::walk` meets its contract: the goals are ready, and the walk over values ends as that over goals.
-- Assumes nothing.
use Rattle.checker.proofs.StepLaws.{goals_still, aim_in, begins_in, walk_ends}
use Rattle.checker.proofs.walk.walk.Goals as goal

pub walk-requires : goal.walk-requires
walk-requires c =
    let (T, st) = c.requires.0 in
    let (t, r) = c.requires.1 in
    ((T, aim_in T t _ _ _ _ r, _, goals_still _ _ T (aim_in T t _ _ _ _ r) _ c.args.proof.now _ (st, c.requires.3, c.requires.4), begins_in T t _ _ _ _ r), c.requires.2, r.goals_few)

pub returns : goal.returns
returns c = λ T t st r. walk_ends _ _ T t _ _ _ _ _ r _ (c.walk.ensures T (aim_in T t _ _ _ _ r) _ (goals_still _ _ T (aim_in T t _ _ _ _ r) _ c.args.proof.now _ (st, c.requires.3, c.requires.4)) (begins_in T t _ _ _ _ r))
