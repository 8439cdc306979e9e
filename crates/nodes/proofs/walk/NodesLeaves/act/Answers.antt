-- `Nodes` act as the walk wants of its leaves.
-- Assumes nothing.
use Rattle.std.proofs.lemmas.Result.{err_from_is_err_and}
use Rattle.walks.specs.Leaves.{LeafTurned}
use Rattle.nodes.proofs.WalkLaws.{here, leaf_room, leaf-fits, leaf-stops, leaf_gives}
use Rattle.nodes.proofs.walk.NodesLeaves.act.Goals as goal

pub act-requires : goal.act-requires
act-requires c =
    let (T, x, A, y, b) = c.requires.0 in
    let l = c.requires.2 in
    let d = here _ _ _ T x A _ _ y c.args.n _ b l in
    ((T, d.0, y.0.table_stands, d.2.stands, leaf_room _ _ _ T x A _ _ y c.args.n _ b l, leaf-fits _ _ _ T x A _ _ y c.args.n _ b l), y.0.indexed, l)

pub returns-in_err-taken : goal.returns-in_err-taken
unfolding LeafTurned
returns-in_err-taken c = λ T x A y b.
    let d = here _ _ _ T x A _ _ y c.args.n _ b c.requires.2 in
    let a = c.in_err-taken.ensures in
    let p = err_from_is_err_and c.from_residual.result c.from_residual.ensures.1 in
    rw (p.1, p.2) (leaf-stops _ _ _ T x A _ _ y c.args.n _ b c.requires.2 _ _ _ (a.2 T d.0 y.0.table_stands d.2.stands))

pub returns : goal.returns
returns c = λ T x A y b.
    let a = c.in_ok-taken.ensures in
    leaf_gives _ _ _ T x A _ _ y c.args.n _ b c.requires.2 _ _ c.act.auto.work a.1 c.in_ok-taken.taken (λ t st. a.2 T t y.0.table_stands st)
