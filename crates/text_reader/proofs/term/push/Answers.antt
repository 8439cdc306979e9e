-- `term::push` meets its contract.
-- Assumes nothing.
use mathlib.Core.Path.{◌∙◌}
use lib.ListN.{length-set}
use native.Mathlib.Omega.{arith}
use Rattle.text_reader.proofs.term.push.Goals as goal

pub store16-requires : goal.store16-requires
store16-requires c = omega (arith, length-set c.args.work.now c.args.low c.args.kind)

pub shape_of-work : goal.shape_of-work
shape_of-work c = c.store16.auto.s ∙ length-set c.args.work.now _ _
