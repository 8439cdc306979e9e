-- `Next::begin_tensor` meets its contract: too few values for the left term's arity; or the frame fits, and the left term is next.
-- Assumes nothing.
use native.Mathlib.Omega.{arith}
use Rattle.walks.specs.Loops.{placed}
use Rattle.walks.proofs.BeginLaws.{tensor_fits, tensor_few, tensor_pushed}
use Rattle.walks.proofs.state.Next.begin_tensor.Goals as goal

pub load16-share-requires : goal.load16-share-requires
load16-share-requires c = let f = tensor_fits _ _ _ _ _ (placed c.args.self c.args.at) c.requires.6 c.requires.5 c.requires.7 in omega (arith, f.1, f.0.space)

pub returns-then-self-share : goal.returns-then-self-share
returns-then-self-share c = λ k act x A s b z e. rw c.new.ensures (tensor_few act x A s _ (placed c.args.self c.args.at) z b e _ c.load16-share.ensures (omega (arith, c.if-self-share.true)))

pub push-requires : goal.push-requires
push-requires c = let f = (tensor_fits _ _ _ _ _ (placed c.args.self c.args.at) c.requires.6 c.requires.5 c.requires.7).0 in (omega (arith, f.frame, f.space), omega (arith, f.place, f.small), omega (arith, f.ends))

pub overflow_add-result-2 : goal.overflow_add-result-2
overflow_add-result-2 c = omega (arith, (tensor_fits _ _ _ _ _ (placed c.args.self c.args.at) c.requires.6 c.requires.5 c.requires.7).0.frame)

pub returns : goal.returns
returns c = λ k act x A s b z e. tensor_pushed act x A s _ (placed c.args.self c.args.at) z b e _ c.load16-share.ensures (omega (arith, c.if-self-share.false)) _ c.push.ensures
