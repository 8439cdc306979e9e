-- `begin_sequence` meets its contract: a header, then a frame.
-- Assumes nothing.
use native.Mathlib.Omega.{arith}
use Rattle.machine.proofs.BeginLaws.{may_enter, sequence_end}
use Rattle.machine.proofs.state.State.begin_sequence.Goals as goal

pub enter-next-requires : goal.enter-next-requires
enter-next-requires c = may_enter c.args.work.now c.args.self c.requires 3 (omega arith)

pub returns : goal.returns
returns c =
    let a = c.args in
    let stored = rw (c.enter-next.ensures, c.frame.ensures, c.put_header.ensures) at c.store_frame.ensures in
    let e = sequence_end a.work.now a.self c.requires.room a.right _ stored in
    rw c.enter-next.ensures (record { begun = e.0; grown = e.1 })
