-- `size_of` meets its contract: the count that is kept.
-- Assumes nothing.
use mathlib.Core.Path.{◌∙◌}
use native.Mathlib.Omega.{arith}
use Rattle.rule_set.proofs.SetLaws.{set_few}
use Rattle.rule_set.proofs.size_of.Goals as goal

pub returns : goal.returns
returns c = record { size = (λ ns s. c.load16.ensures ∙ s.counted); few = omega (arith, c.load16.ensures, set_few _ _ c.requires.0 c.requires.1) }
