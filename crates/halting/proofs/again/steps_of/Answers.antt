-- `again::steps_of` meets its contract: by the size of the state.
-- Assumes nothing.
use mathlib.Core.Path.{refl}
use native.Mathlib.Omega.{arith}
use Rattle.halting.proofs.AgainLaws.{none_held, some_held}
use Rattle.halting.proofs.again.steps_of.Goals as goal

pub returns-then-saved-lt2 : goal.returns-then-saved-lt2
returns-then-saved-lt2 c = none_held c.args.saved.now _ (omega (arith, c.if-saved-lt2.true)) refl

pub returns-else-saved-lt2 : goal.returns-else-saved-lt2
returns-else-saved-lt2 c = some_held c.args.saved.now _ (omega (arith, c.if-saved-lt2.false)) c.load16.ensures
