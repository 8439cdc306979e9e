-- `begin` meets its contract: by the tag, one law for each form.
-- Assumes nothing.
use native.Mathlib.Omega.{arith}
use Rattle.tactics.proofs.SourceLaws.{value_room}
use Rattle.search_machine.proofs.StepLaws.{stood_stands, stood_at, stood_room, id_any, empty_any, atomic_any, assert_any, bottom_any}
use Rattle.search_machine.proofs.state.State.begin.Goals as goal

pub bounds-src-at : goal.bounds-src-at
bounds-src-at c = let a = c.args in omega (arith, stood_at a.src.now a.work.now a.self c.requires.0)

pub begin_id-requires : goal.begin_id-requires
begin_id-requires c = let a = c.args in stood_room a.src.now a.work.now a.self c.requires.0

pub returns-in-17-clause-begun : goal.returns-in-17-clause-begun
returns-in-17-clause-begun c = let a = c.args in id_any a.table.now a.first a.src.now a.work.now a.self _ _ c.in-17.is c.begin_id.ensures.begun

pub begin_empty-requires : goal.begin_empty-requires
begin_empty-requires c = let a = c.args in stood_room a.src.now a.work.now a.self c.requires.0

pub returns-in-21-clause-begun : goal.returns-in-21-clause-begun
returns-in-21-clause-begun c = let a = c.args in empty_any a.table.now a.first a.src.now a.work.now a.self _ _ c.in-21.is c.begin_empty.ensures.begun

pub value_at-requires : goal.value_at-requires
value_at-requires c =
    let a = c.args in
    let p = c.requires in
    omega (arith, value_room a.src.now a.self.at p.0.term (stood_stands a.src.now a.work.now a.self p.0) (λ e. omega (arith, c.in-16.is)) (λ e. omega (arith, c.in-16.is)))

pub begin_atomic-requires : goal.begin_atomic-requires
begin_atomic-requires c =
    let a = c.args in
    let p = c.requires in (stood_room a.src.now a.work.now a.self p.0, p.1, p.2.rules)

pub returns-in-16-clause-begun : goal.returns-in-16-clause-begun
returns-in-16-clause-begun c =
    let a = c.args in
    atomic_any a.table.now a.first a.src.now a.work.now a.self _ _ c.in-16.is c.value_at.result.0 c.value_at.ensures c.begin_atomic.ensures.begun

pub value_at-requires-in-23 : goal.value_at-requires-in-23
value_at-requires-in-23 c =
    let a = c.args in
    let p = c.requires in
    omega (arith, value_room a.src.now a.self.at p.0.term (stood_stands a.src.now a.work.now a.self p.0) (λ e. omega (arith, c.in-23.is)) (λ e. omega (arith, c.in-23.is)))

pub begin_assert-requires : goal.begin_assert-requires
begin_assert-requires c = let a = c.args in stood_room a.src.now a.work.now a.self c.requires.0

pub returns-in-23-clause-begun : goal.returns-in-23-clause-begun
returns-in-23-clause-begun c =
    let a = c.args in
    assert_any a.table.now a.first a.src.now a.work.now a.self _ _ c.in-23.is c.value_at-in-23.result.0 c.value_at-in-23.ensures c.begin_assert.ensures.begun

pub returns-in_default-clause-begun : goal.returns-in_default-clause-begun
returns-in_default-clause-begun c =
    let a = c.args in
    (bottom_any a.table.now a.first a.src.now a.work.now a.self _ (omega arith) (λ e. grind arith) (λ e. grind arith) (λ e. grind arith) (λ e. grind arith) c.fail.ensures).0
