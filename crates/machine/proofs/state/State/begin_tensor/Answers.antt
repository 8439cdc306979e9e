-- `begin_tensor` meets its contract: by the arity of the left term, then by the number of goals.
-- Assumes nothing.
use Rattle.machine.proofs.FormLaws.{tensor_without, tensor_short, tensor_split}
use Rattle.machine.proofs.state.State.begin_tensor.Goals as goal

pub returns-then-arity-eq0-clause-begun : goal.returns-then-arity-eq0-clause-begun
returns-then-arity-eq0-clause-begun c =
    let a = c.args in
    tensor_without a.work.now a.self c.requires.room a.right a.arity _ c.if-arity-eq0.true c.lose.ensures

pub returns-then-self-left-clause-begun : goal.returns-then-self-left-clause-begun
returns-then-self-left-clause-begun c =
    let a = c.args in
    tensor_short a.work.now a.self c.requires.room a.right a.arity _ c.if-arity-eq0.false c.if-self-left.true c.lose-then-self-left.ensures

pub returns-clause-begun : goal.returns-clause-begun
returns-clause-begun c =
    let a = c.args in
    tensor_split a.work.now a.self c.requires.room a.right a.arity _ _ c.if-arity-eq0.false c.split.ensures.begun
