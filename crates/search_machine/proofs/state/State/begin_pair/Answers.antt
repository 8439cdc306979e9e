-- `begin_pair` meets its contract: by the tag, one law for each form.
-- Assumes nothing.
use native.Mathlib.Omega.{arith}
use Rattle.search_machine.proofs.StepLaws.{stood_room, pair_inner, right_small, sequence_pair, tensor_pair, alternation_pair}
use Rattle.search_machine.proofs.state.State.begin_pair.Goals as goal

pub right_of-right-requires : goal.right_of-right-requires
right_of-right-requires c =
    let a = c.args in
    let p = c.requires in (p.0.src_small, pair_inner a.src.now a.work.now a.self a.tag a.down p.0 p.1)

pub begin_sequence-requires : goal.begin_sequence-requires
begin_sequence-requires c =
    let a = c.args in
    let p = c.requires in
    (stood_room a.src.now a.work.now a.self p.0, right_small a.src.now a.work.now a.self a.tag a.down p.0 p.1 c.right_of-right.result c.right_of-right.ensures, p.1.inner.down_is)

pub returns-in-19-clause-begun : goal.returns-in-19-clause-begun
returns-in-19-clause-begun c =
    let a = c.args in
    let p = c.requires in
    sequence_pair a.src.now a.work.now a.self a.tag a.down p.0 p.1 c.right_of-right.result c.right_of-right.ensures _ _ c.in-19.is c.begin_sequence.ensures.begun

pub begin_tensor-requires : goal.begin_tensor-requires
begin_tensor-requires c =
    let a = c.args in
    let p = c.requires in
    (stood_room a.src.now a.work.now a.self p.0, right_small a.src.now a.work.now a.self a.tag a.down p.0 p.1 c.right_of-right.result c.right_of-right.ensures, p.1.inner.down_is)

pub returns-in-20-clause-begun : goal.returns-in-20-clause-begun
returns-in-20-clause-begun c =
    let a = c.args in
    let p = c.requires in
    tensor_pair a.src.now a.work.now a.self a.tag a.down p.0 p.1 c.right_of-right.result c.right_of-right.ensures _ _ c.in-20.is c.begin_tensor.ensures.begun

pub begin_alternation-requires : goal.begin_alternation-requires
begin_alternation-requires c =
    let a = c.args in
    let p = c.requires in
    (stood_room a.src.now a.work.now a.self p.0, right_small a.src.now a.work.now a.self a.tag a.down p.0 p.1 c.right_of-right.result c.right_of-right.ensures, p.1.inner.down_is)

pub returns-in_default-clause-begun : goal.returns-in_default-clause-begun
returns-in_default-clause-begun c =
    let a = c.args in
    let p = c.requires in
    alternation_pair a.src.now a.work.now a.self a.tag a.down p.0 p.1 c.right_of-right.result c.right_of-right.ensures _ _ (λ e. omega arith) (λ e. omega arith) c.begin_alternation.ensures.begun
