-- `begin_label` meets its contract: by the number of goals; a header, the name and a frame.
-- Assumes nothing.
use native.Mathlib.Omega.{arith}
use Rattle.machine.proofs.BeginLaws.{may_enter, label_fails, label_end}
use Rattle.machine.proofs.state.State.begin_label.Goals as goal

pub returns-then-self-ne1-clause-begun : goal.returns-then-self-ne1-clause-begun
returns-then-self-ne1-clause-begun c =
    let a = c.args in
    label_fails a.work.now a.self c.requires.0.room a.name.0 _ c.if-self-ne1.true c.lose.ensures

pub enter-next-requires : goal.enter-next-requires
enter-next-requires c = may_enter c.args.work.now c.args.self c.requires.0 5 (omega arith)

pub returns : goal.returns
returns c =
    let a = c.args in
    let stored = rw (c.frame.ensures, c.enter-next.ensures, c.store16.ensures, c.put_header.ensures) at c.store_frame.ensures in
    let e = label_end a.work.now a.self c.requires.0.room a.name.0 _ c.if-self-ne1.false stored in
    rw c.enter-next.ensures (record { begun = e.0; grown = e.1 })
