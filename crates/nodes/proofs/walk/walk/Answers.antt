-- `walk::walk` meets its contract: the nodes are ready, and the walk ends with them.
-- Assumes nothing.
use Rattle.std.proofs.lemmas.Result.{err_from_is_err_and}
use mathlib.Core.Path.{ap, ◌∙◌}
use mathlib.Core.List.{List}
use Rattle.format.specs.Results.{gives}
use Rattle.hitac.proofs.Nodes.{Cell}
use Rattle.walks.specs.Values.{values_at}
use Rattle.walks.specs.Walks.{out}
use Rattle.walks.specs.Leaves.{Ends as WalkEnds}
use Rattle.nodes.specs.Walks.{Ends}
use Rattle.nodes.proofs.WalkLaws.{roomy, nodes_still}
use Rattle.nodes.proofs.walk.walk.Goals as goal

pub walk-requires : goal.walk-requires
walk-requires c = let (T, x, k, b) = c.requires.0 in ((T, x, _, nodes_still _ _ _ T x _ _ k, b), roomy _ _ T x _ _ k, c.requires.1)

pub returns-in_err-ended : goal.returns-in_err-ended
unfolding WalkEnds Ends
returns-in_err-ended c = λ T x k b.
    let p = err_from_is_err_and c.from_residual.result c.from_residual.ensures.1 in
    rw (p.1, p.2) (c.in_err-ended.ensures T x _ (nodes_still _ _ _ T x _ _ k) b)

pub returns : goal.returns
unfolding WalkEnds Ends
returns c = λ T x k b.
    let z = c.in_ok-ended.ensures T x _ (nodes_still _ _ _ T x _ _ k) b in
    (z.1 ∙ ap (λ (B : List Cell). gives (out B (values_at c.walk.new.work 0 c.in_ok-ended.ended.given))) z.4.1, z.2, z.3)
