-- `ready::make_ready` meets its contract. The invariant: each of the fields has its byte set to 0, or is still ahead.
-- Assumes nothing.
use mathlib.Core.Path.{◌≡◌, refl, ◌∙◌}
use Prim.Native.Nat.{◌+◌, ◌≤◌}
use native.Mathlib.Omega.{arith}
use Rattle.words.proofs.KeptLaws.{kept_same, kept_both}
use Rattle.tables.specs.Search.{step_at, Room}
use Rattle.tables.proofs.SearchLaws.{step_positive}
use Rattle.tables.proofs.RowLaws.{row_le}
use Rattle.seen.proofs.ReadyLaws.{ahead_first, ahead_header, ahead_next, ready_blank, ready_last}
use Rattle.seen.proofs.ready.make_ready.Goals as goal
use Rattle.seen.proofs.ready.make_ready.Goals.{In-loop-at}

-- the header at a place before the end
here : (c : In-loop-at) → Room c.args.s.now c.loop-at.at × (c.loop-at.at + step_at c.args.kind c.args.s.now c.loop-at.at ≤ c.args.to)
here c = let p = c.requires.0 in ahead_header _ _ _ _ _ _ _ (c.loop-at.invariant.2 p.0 p.1) c.loop-at-test.true

pub overflow_sub-to : goal.overflow_sub-to
overflow_sub-to c = omega (arith, row_le (λ at p. (p ≡ at) × Room c.args.s.now at) (step_at c.args.kind c.args.s.now) c.requires.0.0 c.args.from c.args.to c.requires.0.1)

pub clear_part-requires : goal.clear_part-requires
clear_part-requires c = omega (arith, c.requires.1)

pub shape_of-w-then-to-from-gt-FEW_BYTES : goal.shape_of-w-then-to-from-gt-FEW_BYTES
shape_of-w-then-to-from-gt-FEW_BYTES c = c.clear_part.auto.s

pub returns-then-to-from-gt-FEW_BYTES : goal.returns-then-to-from-gt-FEW_BYTES
returns-then-to-from-gt-FEW_BYTES c = ready_blank _ _ _ _ _ _ _ c.clear_part.ensures

pub loop-at-init : goal.loop-at-init
loop-at-init c = (refl, kept_same _ _ _, λ ps h. ahead_first _ _ _ _ ps _ _ h)

pub forget-requires : goal.forget-requires
forget-requires c =
    ((here (goal.at.forget-requires c).In-loop-at).0, omega (arith, c.requires.1, c.loop-at.invariant.0))

pub step-at-requires : goal.step-at-requires
step-at-requires c = (here (goal.at.step-at-requires c).In-loop-at).0

pub overflow_add-at : goal.overflow_add-at
overflow_add-at c = omega (arith, (here (goal.at.overflow_add-at c).In-loop-at).1, c.step-at.ensures)

pub loop-at-smaller : goal.loop-at-smaller
loop-at-smaller c = omega (arith, c.loop-at-test.true, c.step-at.ensures, step_positive c.args.kind c.args.s.now c.loop-at.at)

pub loop-at-preserved : goal.loop-at-preserved
loop-at-preserved c =
    let v = c.loop-at.invariant in (
      c.forget.auto.w ∙ v.0,
      kept_both _ _ _ _ _ _ _ _ _ v.1 c.forget.ensures.kept (omega arith) (omega arith) (omega arith) (omega arith),
      λ ps h. rw c.step-at.ensures (ahead_next _ _ _ _ ps _ _ _ c.forget.ensures (v.2 ps h) c.loop-at-test.true),
    )

pub shape_of-w : goal.shape_of-w
shape_of-w c = c.loop-at.invariant.0

pub returns : goal.returns
returns c = let v = c.loop-at.invariant in ready_last _ _ _ _ _ _ _ _ v.1 v.2 c.loop-at-test.false
