-- `waiting::leave` meets its contract: what waits on top says which step it is.
-- Assumes nothing.
use mathlib.Core.Path.{◌≡◌}
use mathlib.Core.List.{List}
use Prim.Native.Nat.{ℕ, ◌+◌, ◌*◌, ◌-◌, ◌≤◌, ◌<◌}
use native.Mathlib.Omega.{arith}
use lib.ListN.{length}
use Rattle.words.specs.Word.{word}
use Rattle.parts.specs.declared.state.State.{State}
use Rattle.parts.specs.States.{end_of}
use Rattle.reading.specs.Waiting.{Going}
use Rattle.reading.proofs.TurnLaws.{top_inside, ends_at, leave_ends, leave_refused, leave_more}
use Rattle.reading.proofs.waiting.leave.Goals as goal

-- the length of the field on top and what stands there are inside
fits : (s w : List ℕ) (base : ℕ) (x : State) → Going s w base x → 0 < x.depth → (gap : ℕ) → gap ≡ word w (base + (x.depth - 1) * 4) → (x.top + 3 + word s (x.top + 1) ≤ length s) × (gap ≤ x.top)
unfolding end_of
fits s w base x g d gap e = top_inside s w base x g (x.depth - 1) gap (omega arith) e

pub overflow_sub-around : goal.overflow_sub-around
overflow_sub-around c = omega (arith, fits _ _ _ _ c.requires.0 c.requires.2 _ c.load16.ensures)

pub overflow_add-end : goal.overflow_add-end
overflow_add-end c = omega (arith, fits _ _ _ _ c.requires.0 c.requires.2 _ c.load16.ensures)

pub overflow_add-top : goal.overflow_add-top
overflow_add-top c = omega (arith, fits _ _ _ _ c.requires.0 c.requires.2 _ c.load16.ensures)

pub load16-requires-2 : goal.load16-requires-2
load16-requires-2 c = omega (arith, fits _ _ _ _ c.requires.0 c.requires.2 _ c.load16.ensures)

pub overflow_add-end-2 : goal.overflow_add-end-2
overflow_add-end-2 c = omega (arith, c.load16-2.ensures, fits _ _ _ _ c.requires.0 c.requires.2 _ c.load16.ensures)

pub returns-then-x-end : goal.returns-then-x-end
returns-then-x-end c =
    let p = c.requires in
    λ high. (leave_ends _ _ high _ _ p.0 p.1 _ _ _ _ (omega (arith, p.2)) c.load16.ensures c.load16-left.ensures (ends_at _ _ _ c.load16-2.ensures) c.if-left-eq0.true c.if-x-end.true)

pub returns-then-left-eq0 : goal.returns-then-left-eq0
returns-then-left-eq0 c =
    let p = c.requires in
    λ high. rw c.refused.ensures (leave_refused _ _ high _ _ p.0 p.1 _ _ _ _ (omega (arith, p.2)) c.load16.ensures c.load16-left.ensures (ends_at _ _ _ c.load16-2.ensures) c.if-left-eq0.true c.if-x-end.false)

pub returns : goal.returns
returns c =
    let p = c.requires in
    λ high. (leave_more _ _ high _ _ p.0 p.1 _ _ _ _ (omega (arith, p.2)) c.load16.ensures c.load16-left.ensures (ends_at _ _ _ c.load16-2.ensures) c.if-left-eq0.false _ c.store16.ensures)
