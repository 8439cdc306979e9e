-- `Next::begin_sequence` meets its contract: the frame fits, and the left term is next.
-- Assumes nothing.
use native.Mathlib.Omega.{arith}
use Rattle.walks.specs.Loops.{placed}
use Rattle.walks.proofs.BeginLaws.{sequence_fits, sequence_pushed}
use Rattle.walks.proofs.state.Next.begin_sequence.Goals as goal

pub push-requires : goal.push-requires
push-requires c = let f = sequence_fits _ _ _ _ _ (placed c.args.self c.args.at) c.requires.6 c.requires.5 c.requires.7 in (omega (arith, f.frame, f.space), omega (arith, f.place, f.small), omega arith)

pub overflow_add-result-2 : goal.overflow_add-result-2
overflow_add-result-2 c = omega (arith, (sequence_fits _ _ _ _ _ (placed c.args.self c.args.at) c.requires.6 c.requires.5 c.requires.7).frame)

pub returns : goal.returns
returns c = λ k act x A s b z e. sequence_pushed act x A s _ (placed c.args.self c.args.at) z b e _ _ c.push.ensures
