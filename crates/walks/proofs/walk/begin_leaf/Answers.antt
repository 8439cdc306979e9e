-- `walk::begin_leaf` meets its contract: the term's refusal, or where the walk stands behind it.
-- Assumes nothing.
use mathlib.Core.Path.{refl}
use native.Mathlib.Omega.{arith}
use Rattle.words.proofs.KeptLaws.{kept_same}
use Rattle.format.proofs.StandsLaws.{known}
use Rattle.walks.specs.Leaves.{LeafTurned, Goes}
use Rattle.walks.proofs.WalkLaws.{leaf_behind, steps_go}
use Rattle.walks.proofs.walk.begin_leaf.Goals as goal

pub returns-in-Err : goal.returns-in-Err
unfolding Goes LeafTurned
returns-in-Err g c = λ T x A y b. rw c.new.ensures (c.in-Err.ensures T x A (y _ refl (kept_same _ _ _)) b, omega (arith, known _ _ _ b.2.stands))

pub act-requires : goal.act-requires
act-requires g c = let (T, x, A, y, b) = c.requires.0 in ((T, x, A, y _ refl (kept_same _ _ _), b), c.requires.1, c.requires.2)

pub overflow_add-behind : goal.overflow_add-behind
overflow_add-behind g c = let (T, x, A, y, b) = c.requires.0 in omega (arith, known _ _ _ b.2.stands, c.requires.1.file)

pub overflow_add-at : goal.overflow_add-at
overflow_add-at g c = let (T, x, A, y, b) = c.requires.0 in omega (arith, known _ _ _ b.2.stands, c.requires.1.file)

pub load16-requires : goal.load16-requires
load16-requires g c = let (T, x, A, y, b) = c.requires.0 in omega (arith, known _ _ _ b.2.stands)

pub overflow_add-behind-2 : goal.overflow_add-behind-2
overflow_add-behind-2 g c = let (T, x, A, y, b) = c.requires.0 in omega (arith, known _ _ _ b.2.stands, c.requires.1.file, c.load16.ensures)

pub overflow_add-ended : goal.overflow_add-ended
unfolding LeafTurned
overflow_add-ended g c = let (T, x, A, y, b) = c.requires.0 in omega (arith, (c.in-Ok.ensures T x A (y _ refl (kept_same _ _ _)) b).2)

pub resume-requires : goal.resume-requires
unfolding LeafTurned
resume-requires g c =
    let (T, x, A, y, b) = c.requires.0 in
    let z = c.in-Ok.ensures T x A (y _ refl (kept_same _ _ _)) b in
    ((g.L.Leaves.code, g.L.Leaves.acts T, x, z.0, leaf_behind (g.L.Leaves.acts T) x z.0 _ _ _ _ _ _ _ _ _ _ c.load16.ensures z.1), record { file = c.requires.1.file; space = omega (arith, c.requires.1.space) })

pub returns : goal.returns
unfolding LeafTurned
returns g c = λ T x A y b.
    let z = c.in-Ok.ensures T x A (y _ refl (kept_same _ _ _)) b in
    steps_go (λ B s w. g.L.Leaves.ready c.act.new.self T x B s w) (g.L.Leaves.acts T) x z.0 _ _ _ c.resume.auto.work z.3 _ _ _ (omega arith)
    (c.resume.ensures g.L.Leaves.code (g.L.Leaves.acts T) x z.0 (leaf_behind (g.L.Leaves.acts T) x z.0 _ _ _ _ _ _ _ _ _ _ c.load16.ensures z.1))
