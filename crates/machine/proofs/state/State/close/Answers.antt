-- `close` meets its contract: the field's length is stored, or one more field cannot be held.
-- Assumes nothing.
use native.Mathlib.Omega.{arith}
use Rattle.machine.proofs.PopLaws.{exceed_end, close_end}
use Rattle.machine.proofs.state.State.close.Goals as goal

pub returns-then-held-gt-MOST_HELD-clause-popped : goal.returns-then-held-gt-MOST_HELD-clause-popped
returns-then-held-gt-MOST_HELD-clause-popped c =
    let a = c.args in
    let p = c.requires in
    exceed_end a.work.now a.self a.f p.0 p.1 _ (omega (arith, c.if-held-gt-MOST_HELD.true)) c.limit.ensures

pub returns : goal.returns
returns c =
    let a = c.args in
    let p = c.requires in
    let e = close_end a.work.now a.self a.f p.0 p.1 (omega (arith, c.if-held-gt-MOST_HELD.false)) _ c.store16.ensures in
    record { popped = e.0; smaller = e.1 }
