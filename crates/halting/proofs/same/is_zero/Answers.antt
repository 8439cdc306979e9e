-- `same::is_zero` meets its contract: the or of all bytes is that of the list. Assumes nothing.
use Rattle.std.proofs.Common.{rules}
use lib.Bits.{bit_or}
use Rattle.std.proofs.lemmas.Iterator.{YieldsList-from_slice}
use Rattle.std.proofs.lemmas.Iterator.Consumers.{fold_from_yields_List}
use Rattle.halting.proofs.ZeroLaws.{or_zeros}
use Rattle.halting.proofs.same.is_zero.Goals as goal

pub returns : goal.returns
returns c = or_zeros c.args.s.now c.fold.result (fold_from_yields_List _ bit_or _ _ c.fold.ensures.ran (YieldsList-from_slice c.args.s.now cc) (λ a x b q k. search rules))
