-- `use_rule` meets its contract: by the fields held; a header and the name, and the premises copied.
-- Assumes nothing.
use native.Mathlib.Omega.{arith}
use Rattle.machine.proofs.FormLaws.{use_exceeds, use_end}
use Rattle.machine.proofs.state.State.use_rule.Goals as goal

pub returns-then-self-ge-MOST_HELD-clause-begun : goal.returns-then-self-ge-MOST_HELD-clause-begun
returns-then-self-ge-MOST_HELD-clause-begun c =
    let a = c.args in
    use_exceeds a.work.now a.self c.requires.0.room a.table.now a.rule.place a.rule.count a.name.0 _ c.if-self-ge-MOST_HELD.true c.lose.ensures

pub returns : goal.returns
returns c =
    let a = c.args in
    let p = c.requires in
    let e = use_end a.work.now a.self p.0.room a.table.now a.rule.place a.rule.count a.name.0 _ _ _ (omega (arith, c.if-self-ge-MOST_HELD.false)) p.1 p.2
    c.put_header.ensures c.store16.ensures c.copy_in.ensures in
    record { begun = e.0; grown = e.1 }
