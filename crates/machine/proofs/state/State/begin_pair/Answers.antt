-- `begin_pair` meets its contract: by the tag, one law for each form.
-- Assumes nothing.
use native.Mathlib.Omega.{arith}
use Rattle.machine.proofs.StepLaws.{pair_inner, pair_left, sequence_pair, tensor_pair, alternation_pair}
use Rattle.machine.proofs.state.State.begin_pair.Goals as goal

pub right_of-right-requires : goal.right_of-right-requires
right_of-right-requires c = (c.requires.src_small, pair_inner c.args.src.now c.args.work.now c.args.self c.args.tag c.requires)

pub arity_of-requires : goal.arity_of-requires
arity_of-requires c =
    let a = c.args in
    let p = c.requires in
    (p.src_small, p.ready.room.space, pair_left a.src.now a.work.now a.self a.tag p)

pub returns-in-19-clause-begun : goal.returns-in-19-clause-begun
returns-in-19-clause-begun c =
    let a = c.args in
    sequence_pair a.src.now a.work.now a.self a.tag c.requires _ _ c.right_of-right.result c.right_of-right.ensures c.in-19.is c.begin_sequence.ensures.begun

pub returns-in-20-clause-begun : goal.returns-in-20-clause-begun
returns-in-20-clause-begun c =
    let a = c.args in
    tensor_pair a.src.now a.work.now a.self a.tag c.requires _ _ c.right_of-right.result c.right_of-right.ensures c.in-20.is c.arity_of.result c.arity_of.ensures c.begin_tensor.ensures.begun

pub returns-in_default-clause-begun : goal.returns-in_default-clause-begun
returns-in_default-clause-begun c =
    let a = c.args in
    alternation_pair a.src.now a.work.now a.self a.tag c.requires _ _ c.right_of-right.result c.right_of-right.ensures (λ e. omega (arith, e)) (λ e. omega (arith, e)) c.begin_alternation.ensures.begun
