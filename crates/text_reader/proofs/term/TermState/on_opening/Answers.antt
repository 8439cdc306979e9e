-- `TermState::on_opening` meets its contract.
-- Assumes nothing.
use native.Mathlib.Omega.{arith}
use Rattle.text_reader.proofs.StoreLaws.{shown_opening}
use Rattle.text_reader.proofs.term.TermState.on_opening.Goals as goal

pub overflow_add-result : goal.overflow_add-result
overflow_add-result c = let l = c.reduce-here.ensures.low_le_low in omega (arith, l.1)

pub returns : goal.returns
returns c = λ t fs x h n. shown_opening _ _ _ _ _ _ _ (c.reduce-here.ensures.shown_had t fs x h) n
