-- `write::write_outlined` meets its contract.
-- Assumes nothing.
use native.Mathlib.Omega.{arith}
use Rattle.outline.proofs.WholeLaws.{turn-start, turn_given, turn_again, turn_end}
use Rattle.outline.proofs.write.write_outlined.Goals as goal

pub loop-field-init : goal.loop-field-init
loop-field-init c = let p = c.requires in turn-start _ _ _ p.0 p.1

pub put_field-held-requires : goal.put_field-held-requires
put_field-held-requires c =
    let p = c.requires in
    let t = c.loop-field.invariant in
    (_, _, turn_given _ _ _ p.0 p.1 _ _ _ _ _ t _ (omega arith))

pub loop-field-preserved : goal.loop-field-preserved
loop-field-preserved c =
    let p = c.requires in
    let t = c.loop-field.invariant in
    let e = c.put_field-held.ensures in
    turn_again _ _ _ p.0 p.1 _ _ _ _ _ t _ _ _ _ _ (omega arith) (e.shown _ _) e.around.0 e.around.1

pub returns : goal.returns
returns c = λ p x. turn_end _ _ _ p x _ _ _ _ _ c.loop-field.invariant (omega arith)
