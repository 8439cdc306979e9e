-- `begin_inner` meets its contract: by the tag, one law for each form.
-- Assumes nothing.
use native.Mathlib.Omega.{arith}
use mathlib.Core.Path.{sym, ◌∙◌}
use Rattle.tactics.proofs.SourceLaws.{value_room}
use Rattle.search_machine.proofs.StepLaws.{stood_stands, stood_room, label_any, defined_any}
use Rattle.search_machine.proofs.state.State.begin_inner.Goals as goal

pub value_at-requires : goal.value_at-requires
value_at-requires c =
    let a = c.args in
    let p = c.requires in
    let t = p.3 in
    omega (arith, value_room a.src.now a.self.at p.0.term (stood_stands a.src.now a.work.now a.self p.0) (λ e. t.not_17 (sym t.tag_is ∙ e)) (λ e. t.not_21 (sym t.tag_is ∙ e)))

pub begin_label-requires : goal.begin_label-requires
begin_label-requires c = let a = c.args in (stood_room a.src.now a.work.now a.self c.requires.0, c.requires.3.down_is)

pub returns-in-18-clause-begun : goal.returns-in-18-clause-begun
returns-in-18-clause-begun c =
    let a = c.args in
    label_any a.table.now a.first a.src.now a.work.now a.self _ _ a.tag a.down c.requires.3 c.in-18.is c.value_at.result.0 c.value_at.ensures c.begin_label.ensures.begun

pub value_at-requires-in-24 : goal.value_at-requires-in-24
value_at-requires-in-24 c =
    let a = c.args in
    let p = c.requires in
    let t = p.3 in
    omega (arith, value_room a.src.now a.self.at p.0.term (stood_stands a.src.now a.work.now a.self p.0) (λ e. t.not_17 (sym t.tag_is ∙ e)) (λ e. t.not_21 (sym t.tag_is ∙ e)))

pub begin_defined-requires : goal.begin_defined-requires
begin_defined-requires c =
    let a = c.args in
    let p = c.requires in (stood_room a.src.now a.work.now a.self p.0, p.1, p.2.definitions)

pub returns-in-24-clause-begun : goal.returns-in-24-clause-begun
returns-in-24-clause-begun c =
    let a = c.args in
    defined_any a.table.now a.first a.src.now a.work.now a.self _ _ a.tag a.down c.requires.3 c.in-24.is c.value_at-in-24.result.0 c.value_at-in-24.ensures c.begin_defined.ensures.begun
