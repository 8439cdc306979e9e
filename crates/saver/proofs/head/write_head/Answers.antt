-- `head::write_head` meets its contract: the fields, their length and the step count before them, and the number of terms behind them. Assumes nothing.
use mathlib.Core.Path.{◌∙◌}
use Rattle.std.proofs.Common.{arith, rules}
use Rattle.saver.proofs.HeadLaws.{finished_given, end_small, head_end}
use Rattle.saver.proofs.head.write_head.Goals as goal

pub write_finished-end-requires : goal.write_finished-end-requires
write_finished-end-requires c = finished_given _ _ _ c.requires

pub overflow_sub-end : goal.overflow_sub-end
overflow_sub-end c = (end_small c.args.work.now c.args.s c.args.waiting c.requires _ _ c.write_finished-end.ensures).0

pub overflow_cast-end : goal.overflow_cast-end
overflow_cast-end c = record { fits = omega (arith, (end_small c.args.work.now c.args.s c.args.waiting c.requires _ _ c.write_finished-end.ensures).1) }

pub store16-requires-3 : goal.store16-requires-3
store16-requires-3 c =
    let z = end_small c.args.work.now c.args.s c.args.waiting c.requires _ _ c.write_finished-end.ensures in
    let n = c.store16-2.auto.s ∙ c.store16.auto.s in
    omega (arith, n, z.1, z.2, c.requires.space)

pub overflow_add-result : goal.overflow_add-result
overflow_add-result c = record { fits = omega (arith, (end_small c.args.work.now c.args.s c.args.waiting c.requires _ _ c.write_finished-end.ensures).1) }

pub returns : goal.returns
returns c =
    let a = c.args in
    head_end a.work.now a.s a.waiting c.requires _ _ c.write_finished-end.ensures (λ j. search rules) _ _ _ c.store16.ensures c.store16-2.ensures c.store16-3.ensures
