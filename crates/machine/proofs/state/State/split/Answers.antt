-- `split` meets its contract: a header, then a frame with the goals for the right term.
-- Assumes nothing.
use native.Mathlib.Omega.{arith}
use Rattle.machine.proofs.BeginLaws.{may_enter}
use Rattle.machine.proofs.FormLaws.{split_end}
use Rattle.machine.proofs.state.State.split.Goals as goal

pub enter-next-requires : goal.enter-next-requires
enter-next-requires c = may_enter c.args.work.now c.args.self c.requires.0 3 (omega arith)

pub returns : goal.returns
returns c =
    let a = c.args in
    let stored = rw (c.enter-next.ensures, c.frame-others.ensures, c.put_header.ensures) at c.store_frame.ensures in
    let e = split_end a.work.now a.self c.requires.0.room a.right a.left _ c.requires.1 stored in
    rw c.enter-next.ensures (record { begun = e.0; grown = e.1 })
