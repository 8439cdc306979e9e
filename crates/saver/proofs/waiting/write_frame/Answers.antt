-- `waiting::write_frame` meets its contract: two bytes, two values and the goals, one behind the other. Assumes nothing.
use mathlib.Core.Path.{◌∙◌}
use Rattle.std.proofs.Common.{arith, rules}
use lib.ListN.{length-set}
use Rattle.saver.proofs.WaitingLaws.{frame_end}
use Rattle.saver.proofs.waiting.write_frame.Goals as goal

pub bounds-work-to-2 : goal.bounds-work-to-2
bounds-work-to-2 c = simp length-set (omega arith)

pub store16-requires : goal.store16-requires
store16-requires c = simp length-set (omega arith)

pub store16-requires-2 : goal.store16-requires-2
store16-requires-2 c = omega (arith, simp length-set at c.store16.auto.s, c.requires.room)

pub move_within-requires : goal.move_within-requires
move_within-requires c =
    let p = c.requires in
    let n = c.store16-2.auto.s ∙ simp length-set at c.store16.auto.s in
    (omega (arith, p.low.goals_low, p.above), omega (arith, n, p.room))

pub shape_of-work : goal.shape_of-work
shape_of-work c = c.move_within.auto.s ∙ c.store16-2.auto.s ∙ simp length-set at c.store16.auto.s

pub returns : goal.returns
returns c =
    let a = c.args in
    frame_end a.work.now a.to a.f (λ j. search rules) c.requires _ _ _ c.store16.ensures c.store16-2.ensures c.move_within.ensures
