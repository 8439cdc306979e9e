-- `begin` meets its contract: by the tag, one law for each form.
-- Assumes nothing.
use mathlib.Core.Path.{refl}
use native.Mathlib.Omega.{arith}
use Rattle.machine.proofs.StepLaws.{given_at, given_ready, given_value, given_pair, id_any, empty_any, atomic_any, label_any, assert_any, defined_any, pair_any}
use Rattle.machine.proofs.state.State.begin.Goals as goal

pub bounds-src-at : goal.bounds-src-at
bounds-src-at c = let a = c.args in omega (arith, given_at a.table.now a.first a.src.now a.work.now a.self c.requires)

pub begin_id-requires : goal.begin_id-requires
begin_id-requires c =
    let a = c.args in
    given_ready a.table.now a.first a.src.now a.work.now a.self c.requires

pub returns-in-17-clause-begun : goal.returns-in-17-clause-begun
returns-in-17-clause-begun c =
    let a = c.args in
    id_any a.table.now a.first a.src.now a.work.now a.self _ _ c.in-17.is c.begin_id.ensures.begun

pub begin_empty-requires : goal.begin_empty-requires
begin_empty-requires c =
    let a = c.args in
    given_ready a.table.now a.first a.src.now a.work.now a.self c.requires

pub returns-in-21-clause-begun : goal.returns-in-21-clause-begun
returns-in-21-clause-begun c =
    let a = c.args in
    empty_any a.table.now a.first a.src.now a.work.now a.self _ _ c.in-21.is c.begin_empty.ensures.begun

pub value_at-requires : goal.value_at-requires
value_at-requires c =
    let a = c.args in
    omega (arith, given_value a.table.now a.first a.src.now a.work.now a.self c.requires 16 c.in-16.is (λ e. omega (arith, e)) (λ e. omega (arith, e)))

pub begin_atomic-requires : goal.begin_atomic-requires
begin_atomic-requires c =
    let a = c.args in
    (given_ready a.table.now a.first a.src.now a.work.now a.self c.requires, (c.requires.table, c.requires.table_stands))

pub returns-in-16-clause-begun : goal.returns-in-16-clause-begun
returns-in-16-clause-begun c =
    let a = c.args in
    atomic_any a.table.now a.first a.src.now a.work.now a.self _ _ c.in-16.is c.value_at.result.0 c.value_at.ensures c.begin_atomic.ensures.begun

pub value_at-requires-in-18 : goal.value_at-requires-in-18
value_at-requires-in-18 c =
    let a = c.args in
    omega (arith, given_value a.table.now a.first a.src.now a.work.now a.self c.requires 18 c.in-18.is (λ e. omega (arith, e)) (λ e. omega (arith, e)))

pub begin_label-requires : goal.begin_label-requires
begin_label-requires c =
    let a = c.args in
    (given_ready a.table.now a.first a.src.now a.work.now a.self c.requires, omega (arith, given_value a.table.now a.first a.src.now a.work.now a.self c.requires 18 c.in-18.is (λ e. omega (arith, e)) (λ e. omega (arith, e)), c.requires.src_small))

pub returns-in-18-clause-begun : goal.returns-in-18-clause-begun
returns-in-18-clause-begun c =
    let a = c.args in
    label_any a.table.now a.first a.src.now a.work.now a.self _ _ c.in-18.is c.value_at-in-18.result.0 c.value_at-in-18.ensures c.begin_label.ensures.begun

pub value_at-requires-in-23 : goal.value_at-requires-in-23
value_at-requires-in-23 c =
    let a = c.args in
    omega (arith, given_value a.table.now a.first a.src.now a.work.now a.self c.requires 23 c.in-23.is (λ e. omega (arith, e)) (λ e. omega (arith, e)))

pub begin_assert-requires : goal.begin_assert-requires
begin_assert-requires c =
    let a = c.args in
    given_ready a.table.now a.first a.src.now a.work.now a.self c.requires

pub returns-in-23-clause-begun : goal.returns-in-23-clause-begun
returns-in-23-clause-begun c =
    let a = c.args in
    assert_any a.table.now a.first a.src.now a.work.now a.self _ _ c.in-23.is c.value_at-in-23.result.0 c.value_at-in-23.ensures c.begin_assert.ensures.begun

pub value_at-requires-in-24 : goal.value_at-requires-in-24
value_at-requires-in-24 c =
    let a = c.args in
    omega (arith, given_value a.table.now a.first a.src.now a.work.now a.self c.requires 24 c.in-24.is (λ e. omega (arith, e)) (λ e. omega (arith, e)))

pub begin_defined-requires : goal.begin_defined-requires
begin_defined-requires c =
    let a = c.args in
    (given_ready a.table.now a.first a.src.now a.work.now a.self c.requires, (c.requires.table, c.requires.table_stands))

pub returns-in-24-clause-begun : goal.returns-in-24-clause-begun
returns-in-24-clause-begun c =
    let a = c.args in
    defined_any a.table.now a.first a.src.now a.work.now a.self _ _ c.in-24.is c.value_at-in-24.result.0 c.value_at-in-24.ensures c.begin_defined.ensures.begun

pub begin_pair-requires : goal.begin_pair-requires
begin_pair-requires c =
    let a = c.args in
    given_pair a.table.now a.first a.src.now a.work.now a.self c.requires _ refl (λ e. omega (arith, e)) (λ e. omega (arith, e)) (λ e. omega (arith, e)) (λ e. omega (arith, e)) (λ e. omega (arith, e)) (λ e. omega (arith, e))

pub returns-in_default-clause-begun : goal.returns-in_default-clause-begun
returns-in_default-clause-begun c =
    let a = c.args in
    pair_any a.table.now a.first a.src.now a.work.now a.self _ _ c.begin_pair.ensures.begun
