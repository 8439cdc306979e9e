-- `finished::write_field` meets its contract: the field that the frame keeps is copied, or there is none. Assumes nothing.
use native.Mathlib.Omega.{arith}
use Rattle.saver.proofs.FinishedLaws.{none_written, field-begins, field_room, field-written}
use Rattle.saver.proofs.finished.write_field.Goals as goal

-- the field ends in the part that a run uses, so that it begins below that
pub overflow_add-from : goal.overflow_add-from
overflow_add-from c =
    let a = c.args in
    let z = field-begins a.work.now a.at a.end a.to c.requires _ c.load_frame-f.ensures _ c.keeps_field.ensures c.if-not-keeps_field.false in
    record { fits = omega (arith, z, c.requires.marked.low) }

pub overflow_sub-size : goal.overflow_sub-size
overflow_sub-size c =
    let a = c.args in
    omega (arith, field-begins a.work.now a.at a.end a.to c.requires _ c.load_frame-f.ensures _ c.keeps_field.ensures c.if-not-keeps_field.false)

pub move_within-requires : goal.move_within-requires
move_within-requires c =
    let a = c.args in
    let z = field_room a.work.now a.at a.end a.to c.requires _ c.load_frame-f.ensures _ c.keeps_field.ensures c.if-not-keeps_field.false in
    (omega (arith, z.0), omega (arith, z.1))

pub returns : goal.returns
returns c =
    let a = c.args in
    field-written a.work.now a.at a.end a.to c.requires _ c.load_frame-f.ensures _ c.keeps_field.ensures c.if-not-keeps_field.false _ c.move_within.ensures

pub returns-then-not-keeps_field : goal.returns-then-not-keeps_field
returns-then-not-keeps_field c =
    let a = c.args in
    none_written a.work.now a.at a.end a.to c.requires _ c.load_frame-f.ensures _ c.keeps_field.ensures c.if-not-keeps_field.true
