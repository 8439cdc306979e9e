-- `seen::first_repeat` meets its contract. The invariant: the table has the headers seen, and the first clash of all is the first from here on.
-- Assumes nothing.
use mathlib.Core.Path.{refl, ◌∙◌}
use Prim.Native.Nat.{◌+◌, ◌≤◌}
use native.Mathlib.Omega.{arith}
use Rattle.words.proofs.KeptLaws.{kept_same, kept_both}
use Rattle.tables.specs.Search.{step_at, Room}
use Rattle.tables.proofs.SearchLaws.{step_positive}
use Rattle.index.proofs.TurnLaws.{turn_first, header, own, member, turn_clash, turn_next, turn_last}
use Rattle.seen.proofs.SeenLaws.{seen_nothing, over}
use Rattle.seen.proofs.first_repeat.Invariants.{T}
use Rattle.seen.proofs.first_repeat.Goals as goal
use Rattle.seen.proofs.first_repeat.Goals.{In-loop-at}

-- the turn at a place before the end, and its header
turn : (c : In-loop-at) → T c.args.kind c.args.s.now c.loop-at.w c.requires.0.0 c.args.base c.args.to c.loop-at.at
turn c = let p = c.requires.0 in c.loop-at.invariant.2 p.0 p.1 p.2

here : (c : In-loop-at) → Room c.args.s.now c.loop-at.at × (c.loop-at.at + step_at c.args.kind c.args.s.now c.loop-at.at ≤ c.args.to)
here c = header _ _ _ _ _ _ _ (turn c) c.loop-at-test.true

pub make_ready-requires : goal.make_ready-requires
make_ready-requires c = let p = c.requires in ((p.0.0, p.0.1), p.1)

pub loop-at-init : goal.loop-at-init
loop-at-init c = (refl, kept_same _ _ _, λ ps h m. turn_first _ _ _ _ ps _ _ h m (seen_nothing _ _ _ _ _ _ _ c.make_ready.ensures ps h))

pub meets-requires : goal.meets-requires
meets-requires c =
    let inside = (goal.at.meets-requires c).In-loop-at in
    ((here inside).0, own _ _ _ _ _ _ _ (turn inside) c.loop-at-test.true, omega (arith, c.requires.1, c.make_ready.auto.w, c.loop-at.invariant.0))

pub shape_of-w-then-meets : goal.shape_of-w-then-meets
shape_of-w-then-meets c = c.meets.auto.w ∙ c.loop-at.invariant.0 ∙ c.make_ready.auto.w

pub returns-then-meets : goal.returns-then-meets
returns-then-meets c =
    let inside = (goal.at.returns-then-meets c).In-loop-at in
    let p = c.requires.0 in
    let m = c.meets.ensures in
    over _ _ _ _ _ _ _ _ _ p.0 p.1 (turn_clash _ _ _ _ _ _ _ (turn inside) c.loop-at-test.true (m.told _ _ (member _ _ _ _ _ _ _ (turn inside) c.loop-at-test.true) (turn inside).has ∙ c.if-meets.true)) c.make_ready.ensures (kept_both _ _ _ _ _ _ _ _ _ c.loop-at.invariant.1 m.kept (omega arith) (omega arith) (omega arith) (omega arith))

pub step-at-requires : goal.step-at-requires
step-at-requires c = (here (goal.at.step-at-requires c).In-loop-at).0

pub overflow_add-at : goal.overflow_add-at
overflow_add-at c = omega (arith, (here (goal.at.overflow_add-at c).In-loop-at).1, c.step-at.ensures)

pub loop-at-smaller : goal.loop-at-smaller
loop-at-smaller c = omega (arith, c.loop-at-test.true, c.step-at.ensures, step_positive c.args.kind c.args.s.now c.loop-at.at)

pub loop-at-preserved : goal.loop-at-preserved
loop-at-preserved c =
    let v = c.loop-at.invariant in (
      c.meets.auto.w ∙ v.0,
      kept_both _ _ _ _ _ _ _ _ _ v.1 c.meets.ensures.kept (omega arith) (omega arith) (omega arith) (omega arith),
      λ ps h e.
          let t = v.2 ps h e in
          rw c.step-at.ensures (turn_next _ _ _ _ ps _ _ t c.loop-at-test.true _ (c.meets.ensures.told ps t.seen (member _ _ _ _ ps _ _ t c.loop-at-test.true) t.has ∙ c.if-meets.false) (c.meets.ensures.entered ps t.seen t.has c.if-meets.false)),
    )

pub shape_of-w : goal.shape_of-w
shape_of-w c = c.loop-at.invariant.0 ∙ c.make_ready.auto.w

pub returns : goal.returns
returns c =
    let p = c.requires.0 in
    over _ _ _ _ _ _ _ _ _ p.0 p.1 (turn_last _ _ _ _ _ _ _ (c.loop-at.invariant.2 p.0 p.1 p.2) c.loop-at-test.false).0 c.make_ready.ensures c.loop-at.invariant.1
