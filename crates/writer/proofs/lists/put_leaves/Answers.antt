-- `lists::put_leaves` meets its contract: at each turn of the loop the leaves before the place are written.
-- Assumes nothing.
use native.Mathlib.Omega.{arith}
use Prim.Native.Nat.{◌+◌, ◌≤◌}
use mathlib.Core.Path.{refl, ◌∙◌}
use lib.ListN.{length}
use Rattle.writer.proofs.LeafLaws.{leaves-start, leaves_use, leaves_open, open_fits, leaves-done, rest_open}
use Rattle.writer.proofs.lists.put_leaves.Goals as goal

pub loop-here-init : goal.loop-here-init
loop-here-init c = (refl, λ p. leaves-start p _)

pub loop-here-preserved-then-flat-here-eq-USE_TAG : goal.loop-here-preserved-then-flat-here-eq-USE_TAG
loop-here-preserved-then-flat-here-eq-USE_TAG c = (c.loop-here.invariant.0, λ p. leaves_use (c.loop-here.invariant.1 p) c.loop-here-test.true c.if-flat-here-eq-USE_TAG.true)

pub load16-goal-requires : goal.load16-goal-requires
load16-goal-requires c =
    let open_inside : c.loop-here.here + 5 ≤ length c.args.flat.now = (rest_open (c.loop-here.invariant.1 c.requires.0).rest c.loop-here-test.true c.if-flat-here-eq-USE_TAG.false).2 in
    omega (arith, open_inside)

pub store16-requires : goal.store16-requires
store16-requires c =
    let open_room : c.loop-here.len + 2 ≤ length c.args.out.now = open_fits (c.loop-here.invariant.1 c.requires.0) c.loop-here-test.true c.if-flat-here-eq-USE_TAG.false c.requires.1 in
    omega (arith, open_room, c.loop-here.invariant.0)

pub overflow_add-len : goal.overflow_add-len
overflow_add-len c =
    let open_room : c.loop-here.len + 2 ≤ length c.args.out.now = open_fits (c.loop-here.invariant.1 c.requires.0) c.loop-here-test.true c.if-flat-here-eq-USE_TAG.false c.requires.1 in
    omega (arith, open_room, c.ranges)

pub loop-here-preserved : goal.loop-here-preserved
loop-here-preserved c =
    let open_room : c.loop-here.len + 2 ≤ length c.args.out.now = open_fits (c.loop-here.invariant.1 c.requires.0) c.loop-here-test.true c.if-flat-here-eq-USE_TAG.false c.requires.1 in
    (c.store16.auto.s ∙ c.loop-here.invariant.0, λ p. leaves_open (c.loop-here.invariant.1 p) c.loop-here-test.true _ _ c.if-flat-here-eq-USE_TAG.false c.load16-goal.ensures open_room c.store16.ensures)

pub returns : goal.returns
returns c = λ p. leaves-done (c.loop-here.invariant.1 p) c.loop-here-test.false
