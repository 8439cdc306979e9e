-- `writing::write_term` meets its contract: every turn of the loop writes the next field. The invariant: what is written and what is still to be written make the text of the file's term.
-- Assumes nothing.
use mathlib.Core.Path.{refl, ◌∙◌}
use native.Mathlib.Omega.{arith}
use Rattle.notation.specs.Written.{written}
use Rattle.text_writer.proofs.WholeLaws.{start_law, still_due, end_law}
use Rattle.text_writer.proofs.writing.write_term.Goals as goal

pub loop-x-init : goal.loop-x-init
loop-x-init c = (refl, λ t st. start_law _ _ t st c.requires.0)

pub turn-x-requires : goal.turn-x-requires
turn-x-requires c = let p = c.requires in let k = still_due _ _ _ _ (c.loop-x.invariant.1 p.1.0 p.1.1) c.loop-x-test.true in (written p.1.0, k.0, k.1, k.2)

pub loop-x-smaller : goal.loop-x-smaller
loop-x-smaller c = let p = c.requires in let k = still_due _ _ _ _ (c.loop-x.invariant.1 p.1.0 p.1.1) c.loop-x-test.true in omega (arith, (c.turn-x.ensures (written p.1.0) k.0 k.1 k.2).1, c.loop-x-test.true)

pub loop-x-preserved : goal.loop-x-preserved
loop-x-preserved c = (c.turn-x.auto.work ∙ c.loop-x.invariant.0, λ t st. let k = still_due _ _ _ _ (c.loop-x.invariant.1 t st) c.loop-x-test.true in (c.turn-x.ensures (written t) k.0 k.1 k.2).0)

pub shape_of-work : goal.shape_of-work
shape_of-work c = c.loop-x.invariant.0

pub returns : goal.returns
returns c = λ t st. end_law _ _ _ _ (c.loop-x.invariant.1 t st) c.loop-x-test.false
