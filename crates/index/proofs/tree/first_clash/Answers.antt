-- `tree::first_clash` meets its contract. The invariant: the index has the headers seen, and the first clash of all is the first from here on.
-- Assumes nothing.
use mathlib.Core.Path.{◌≡◌, refl, ◌∙◌}
use Prim.Native.Nat.{ℕ, ◌+◌, ◌*◌, ◌≤◌, ◌<◌}
use native.Mathlib.Omega.{arith}
use lib.ListN.{length}
use Rattle.words.proofs.KeptLaws.{kept_same, kept_both}
use Rattle.tables.specs.Search.{step_at, Room}
use Rattle.tables.proofs.SearchLaws.{step_positive}
use Rattle.index.specs.Layout.{heads_room}
use Rattle.index.proofs.TurnLaws.{turn_first, header, own, room_left, turn_clash, turn_next, turn_last}
use Rattle.index.proofs.BuildLaws.{tree_empty, built}
use Rattle.index.proofs.tree.first_clash.Invariants.{T}
use Rattle.index.proofs.tree.first_clash.Goals as goal
use Rattle.index.proofs.tree.first_clash.Goals.{In-loop-at}

-- the turn at a place before the end, its header, and the room for its node
turn : (c : In-loop-at) → T c.args.kind c.args.s.now c.loop-at.w c.requires.0.0 c.args.base c.args.to c.loop-at.at c.loop-at.count
turn c = let p = c.requires.0 in c.loop-at.invariant.2 p.0 p.1 p.2

here : (c : In-loop-at) → Room c.args.s.now c.loop-at.at × (c.loop-at.at + step_at c.args.kind c.args.s.now c.loop-at.at ≤ c.args.to)
here c = header _ _ _ _ _ _ _ (turn c) c.loop-at-test.true

more : (c : In-loop-at) → c.loop-at.count < length c.requires.0.0
more c = omega (arith, room_left _ _ _ _ _ _ _ (turn c) c.loop-at-test.true, (turn c).has.many)

pub clear_part-requires : goal.clear_part-requires
clear_part-requires c = omega (arith, c.requires.0.4)

pub loop-at-init : goal.loop-at-init
loop-at-init c = (refl, kept_same _ _ _, λ ps h e. turn_first _ _ _ _ ps _ _ h e (tree_empty _ _ _ _ _ (omega (arith, c.requires.0.4, c.clear_part.auto.s)) c.clear_part.ensures))

pub enter-requires : goal.enter-requires
enter-requires c =
    let inside = (goal.at.enter-requires c).In-loop-at in
    let p = c.requires in
    let n = more inside in
    record { by_index = ((turn inside).seen, (turn inside).has); tagged = (own _ _ _ _ _ _ _ (turn inside) c.loop-at-test.true, (here inside).0, p.1, p.2, omega (arith, n, p.0.3), omega (arith, n, p.0.4, c.clear_part.auto.s, c.loop-at.invariant.0)) }

pub shape_of-w-then-enter : goal.shape_of-w-then-enter
shape_of-w-then-enter c = c.enter.auto.w ∙ c.loop-at.invariant.0 ∙ c.clear_part.auto.s

pub returns-then-enter : goal.returns-then-enter
returns-then-enter c =
    let inside = (goal.at.returns-then-enter c).In-loop-at in
    let p = c.requires.0 in
    let e = c.enter.ensures in
    let cleared = c.clear_part.ensures.kept in
    let kept = kept_both _ _ _ _ _ _ _ c.args.base (c.args.base + heads_room + length p.0 * 5) c.loop-at.invariant.1 e.kept (omega arith) (omega arith) (omega (arith, more inside)) (omega (arith, more inside)) in
    built _ _ _ _ _ _ _ _ p.0 p.1 (turn_clash _ _ _ _ _ _ _ (turn inside) c.loop-at-test.true (e.told _ (turn inside).has ∙ c.if-enter.true)) (kept_both _ _ _ _ _ _ _ _ (c.args.base + heads_room + length p.0 * 5) cleared kept (omega arith) (omega arith) (omega arith) (omega arith)) (λ h. absurd (let z : ◌≡◌ {A = ℕ} 0 1 = cc in omega arith))

pub overflow_add-count : goal.overflow_add-count
overflow_add-count c = omega (arith, more (goal.at.overflow_add-count c).In-loop-at, c.requires.0.3)

pub step-at-requires : goal.step-at-requires
step-at-requires c = (here (goal.at.step-at-requires c).In-loop-at).0

pub overflow_add-at : goal.overflow_add-at
overflow_add-at c = omega (arith, (here (goal.at.overflow_add-at c).In-loop-at).1, c.step-at.ensures)

pub loop-at-smaller : goal.loop-at-smaller
loop-at-smaller c = omega (arith, c.loop-at-test.true, c.step-at.ensures, step_positive c.args.kind c.args.s.now c.loop-at.at)

pub loop-at-preserved : goal.loop-at-preserved
loop-at-preserved c =
    let v = c.loop-at.invariant in (
      c.enter.auto.w ∙ v.0,
      kept_both _ _ _ _ _ _ _ _ _ v.1 c.enter.ensures.kept (omega arith) (omega arith) (omega arith) (omega arith),
      λ ps h m.
          let t = v.2 ps h m in
          let f = c.enter.ensures.told t.seen t.has ∙ c.if-enter.false in
          rw c.step-at.ensures (turn_next _ _ _ _ ps _ _ t c.loop-at-test.true _ f (c.enter.ensures.entered t.seen t.has c.if-enter.false)),
    )

pub shape_of-w : goal.shape_of-w
shape_of-w c = c.loop-at.invariant.0 ∙ c.clear_part.auto.s

pub returns : goal.returns
returns c =
    let p = c.requires.0 in
    let v = c.loop-at.invariant in
    let x = turn_last _ _ _ _ _ _ _ (v.2 p.0 p.1 p.2) c.loop-at-test.false in
    built _ _ _ _ _ _ _ _ p.0 p.1 x.0 (kept_both _ _ _ _ _ _ _ _ _ c.clear_part.ensures.kept v.1 (omega arith) (omega arith) (omega arith) (omega (arith, x.1.many))) (λ h. (_, x.1))
