-- `Pending::take` meets its contract: another goal is first, or a root, a list or one goal of the last list less.
-- Assumes nothing.
use Prim.Native.Nat.{◌+◌, ◌*◌, ◌≤◌}
use native.Mathlib.Omega.{arith}
use lib.ListN.{length}
use Rattle.derivation.proofs.PendingLaws.{others_told, same_told, none_taken, other_root, root_taken, goal_inside, other_listed, last_taken, two_left, one_taken}
use Rattle.derivation.proofs.pending.Pending.take.Goals as goal

pub returns-then-self-eq0-2 : goal.returns-then-self-eq0-2
returns-then-self-eq0-2 c = none_taken _ _ _ _ _ c.requires.0 c.if-self-eq0.true _ c.if-self-eq0-2.true

pub returns-then-ne : goal.returns-then-ne
returns-then-ne c = other_root _ _ _ _ _ c.requires.0 c.if-self-eq0.true _ c.if-self-eq0-2.false _ c.value_at-root.ensures (others_told _ _ _ c.ne.ensures c.if-ne.true)

pub returns-then-self-eq0 : goal.returns-then-self-eq0
returns-then-self-eq0 c = root_taken _ _ _ _ _ c.requires.0 c.if-self-eq0.true _ c.if-self-eq0-2.false _ c.value_at-root.ensures (same_told _ _ _ c.ne.ensures c.if-ne.false)

pub value_at-first-requires : goal.value_at-first-requires
value_at-first-requires c = omega (arith, goal_inside _ _ _ _ _ c.requires.0 c.if-self-eq0.false _ c.load16-place.ensures)

pub returns-then-ne-2 : goal.returns-then-ne-2
returns-then-ne-2 c = other_listed _ _ _ _ _ c.requires.0 c.if-self-eq0.false _ c.load16-place.ensures _ _ c.value_at-first.ensures (others_told _ _ _ c.ne-2.ensures c.if-ne-2.true)

pub returns-then-left-eq1 : goal.returns-then-left-eq1
returns-then-left-eq1 c = last_taken _ _ _ _ _ c.requires.0 c.if-self-eq0.false _ c.load16-place.ensures _ _ c.value_at-first.ensures (same_told _ _ _ c.ne-2.ensures c.if-ne-2.false) _ c.load16-left.ensures c.if-left-eq1.true

pub overflow_add-place : goal.overflow_add-place
overflow_add-place c =
    let more : (2 ≤ c.load16-left.result) × (c.load16-place.result + c.load16-left.result * 2 ≤ length c.args.table.now) = two_left _ _ _ _ _ c.requires.0 c.if-self-eq0.false _ c.load16-place.ensures _ _ c.value_at-first.ensures (same_told _ _ _ c.ne-2.ensures c.if-ne-2.false) _ c.load16-left.ensures c.if-left-eq1.false in
    omega (arith, more, c.requires.1)

pub overflow_sub-left : goal.overflow_sub-left
overflow_sub-left c =
    let more : (2 ≤ c.load16-left.result) × (c.load16-place.result + c.load16-left.result * 2 ≤ length c.args.table.now) = two_left _ _ _ _ _ c.requires.0 c.if-self-eq0.false _ c.load16-place.ensures _ _ c.value_at-first.ensures (same_told _ _ _ c.ne-2.ensures c.if-ne-2.false) _ c.load16-left.ensures c.if-left-eq1.false in
    omega (arith, more)

pub returns : goal.returns
returns c = one_taken _ _ _ _ _ c.requires.0 c.if-self-eq0.false _ c.load16-place.ensures _ _ c.value_at-first.ensures (same_told _ _ _ c.ne-2.ensures c.if-ne-2.false) _ c.load16-left.ensures c.if-left-eq1.false _ _ c.store16.ensures c.store16-2.ensures
