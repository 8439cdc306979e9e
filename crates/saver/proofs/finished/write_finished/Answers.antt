-- `finished::write_finished` meets its contract: at every turn the fields of the frames passed, outermost first, are written. Assumes nothing.
use native.Mathlib.Omega.{arith}
use Rattle.saver.proofs.FinishedLaws.{finished-start, frame_room, finished_inside_given, finished-field_given, finished_next, finished_all, same_length as turn-length}
use Rattle.saver.proofs.finished.write_finished.Goals as goal

pub loop-at-init : goal.loop-at-init
loop-at-init c = let a = c.args in finished-start a.work.now a.top a.out a.to c.requires

pub overflow_sub-at : goal.overflow_sub-at
overflow_sub-at c = omega (arith, frame_room _ _ _ _ _ _ _ c.loop-at.invariant c.loop-at-test.true)

pub inside_of-end-requires : goal.inside_of-end-requires
inside_of-end-requires c = finished_inside_given _ _ _ _ _ _ _ c.loop-at.invariant c.loop-at-test.true

pub write_field-next-requires : goal.write_field-next-requires
write_field-next-requires c = finished-field_given _ _ _ _ _ _ _ c.loop-at.invariant c.loop-at-test.true _ c.inside_of-end.ensures

pub loop-at-smaller : goal.loop-at-smaller
loop-at-smaller c = omega (arith, frame_room _ _ _ _ _ _ _ c.loop-at.invariant c.loop-at-test.true)

pub loop-at-preserved : goal.loop-at-preserved
loop-at-preserved c = finished_next _ _ _ _ _ _ _ c.loop-at.invariant c.loop-at-test.true _ c.inside_of-end.ensures _ _ c.write_field-next.ensures

pub shape_of-work : goal.shape_of-work
shape_of-work c = turn-length _ _ _ _ _ _ _ c.loop-at.invariant

pub returns : goal.returns
returns c = finished_all _ _ _ _ _ _ _ c.loop-at.invariant c.loop-at-test.false
