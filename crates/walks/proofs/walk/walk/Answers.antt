-- `walk::walk` meets its contract: each step leaves the whole walk's outcome as it is, and begins a term further on.
-- Assumes nothing.
use Rattle.std.proofs.lemmas.Result.{err_from_is_err_and}
use Rattle.std.specs.Prelude.{Ok}
use mathlib.Core.Path.{refl, subst}
use Prim.Native.Nat.{◌+◌}
use native.Mathlib.Omega.{arith}
use Rattle.words.proofs.KeptLaws.{kept_same}
use Rattle.format.proofs.StandsLaws.{known}
use Rattle.walks.specs.declared.state.Turn.{Turn}
use Rattle.walks.specs.Loops.{Turned}
use Rattle.walks.specs.Leaves.{Goes, Ends}
use Rattle.walks.proofs.walk.walk.Goals as goal

pub step-requires : goal.step-requires
step-requires g c =
    let (T, x, A, y, b) = c.requires.0 in
    let v = c.loop-next.invariant T x A y b in
    ((T, x, v.0, v.1, v.2), record { file = c.requires.1.file; space = omega (arith, c.requires.1.space) })

pub returns-in_err-next : goal.returns-in_err-next
unfolding Goes Ends
returns-in_err-next g c = λ T x A y b.
    let v = c.loop-next.invariant T x A y b in
    let p = err_from_is_err_and c.from_residual.result c.from_residual.ensures.1 in
    rw (p.1, p.2) (c.in_err-next.ensures T x v.0 v.1 v.2)

pub loop-next-smaller : goal.loop-next-smaller
unfolding Goes Turned
loop-next-smaller g c =
    let (T, x, A, y, b) = c.requires.0 in
    let v = c.loop-next.invariant T x A y b in
    let z = subst (λ (t : Turn). Goes (λ B s w. g.L.Leaves.ready c.step.new.leaves T x B s w) (g.L.Leaves.acts T) x c.args.proof.now c.step.new.work (c.loop-next.n.at + 1) (Ok t)) c.in-Begin.is (c.in_ok-next.ensures T x v.0 v.1 v.2) in
    omega (arith, z.1.1, known _ _ _ v.2.2.stands)

pub loop-next-preserved : goal.loop-next-preserved
unfolding Goes Turned
loop-next-preserved g c = λ T x A y b.
    let v = c.loop-next.invariant T x A y b in
    let z = subst (λ (t : Turn). Goes (λ B s w. g.L.Leaves.ready c.step.new.leaves T x B s w) (g.L.Leaves.acts T) x c.args.proof.now c.step.new.work (c.loop-next.n.at + 1) (Ok t)) c.in-Begin.is (c.in_ok-next.ensures T x v.0 v.1 v.2) in
    (z.0, z.2, z.1.0)

pub returns-in-Ended : goal.returns-in-Ended
unfolding Goes Turned Ends
returns-in-Ended g c = λ T x A y b.
    let v = c.loop-next.invariant T x A y b in
    let z = subst (λ (t : Turn). Goes (λ B s w. g.L.Leaves.ready c.step.new.leaves T x B s w) (g.L.Leaves.acts T) x c.args.proof.now c.step.new.work (c.loop-next.n.at + 1) (Ok t)) c.in-Ended.is (c.in_ok-next.ensures T x v.0 v.1 v.2) in
    (z.0, z.1.0, z.1.1, z.1.2, z.2 _ refl (kept_same _ _ _))
