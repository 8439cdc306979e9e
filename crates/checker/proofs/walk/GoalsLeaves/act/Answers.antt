-- `Goals` act as the walk wants of its leaves.
-- Assumes nothing.
use Rattle.checker.proofs.StepLaws.{leaf_ready, leaf_turned}
use Rattle.checker.proofs.walk.GoalsLeaves.act.Goals as goal

pub act-requires : goal.act-requires
act-requires c =
    let (T, x, A, y, b) = c.requires.0 in
    ((T, y.0), (b.0, leaf_ready T x A _ _ c.args.n _ b c.requires.2 c.requires.1.space), c.requires.2, y.1, (A, y.2))

pub returns : goal.returns
returns c = λ T x A y b. leaf_turned T x A _ _ c.args.n _ b c.requires.2 _ _ _ c.act.auto.work y _ (c.act.ensures T b.0 y.0 (leaf_ready T x A _ _ c.args.n _ b c.requires.2 c.requires.1.space))
