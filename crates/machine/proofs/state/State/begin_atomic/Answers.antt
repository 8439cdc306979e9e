-- `begin_atomic` meets its contract: by the number of goals, then by what is found.
-- Assumes nothing.
use mathlib.Core.Path.{refl}
use Rattle.tactics.proofs.FoundLaws.{rule_inside}
use Rattle.machine.proofs.FormLaws.{rule_fails, rule_missing_lem, rule_used}
use Rattle.machine.proofs.state.State.begin_atomic.Goals as goal

pub returns-then-self-ne1-clause-begun : goal.returns-then-self-ne1-clause-begun
returns-then-self-ne1-clause-begun c =
    let a = c.args in
    rule_fails a.work.now a.self c.requires.0.room a.table.now a.first a.name _ c.if-self-ne1.true c.lose.ensures

pub use_rule-requires : goal.use_rule-requires
use_rule-requires c =
    let a = c.args in
    let i = rule_inside a.table.now a.first a.name c.value_at.result _ c.in-Some.ensures _ refl in
    (c.requires.0, i.0, i.1)

pub returns-in-None-clause-begun : goal.returns-in-None-clause-begun
returns-in-None-clause-begun c =
    let a = c.args in
    rule_missing_lem a.work.now a.self c.requires.0.room a.table.now a.first a.name c.value_at.result _ c.if-self-ne1.false c.value_at.ensures c.in-None.ensures _ refl c.lose-in-None.ensures

pub returns-in-Some-clause-begun : goal.returns-in-Some-clause-begun
returns-in-Some-clause-begun c =
    let a = c.args in
    rule_used a.work.now a.self c.requires.0.room a.table.now a.first a.name c.value_at.result _ c.if-self-ne1.false c.value_at.ensures c.in-Some.ensures _ refl _ _ c.use_rule.ensures.begun
