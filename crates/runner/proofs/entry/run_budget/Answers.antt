-- `entry::run_budget` meets its contract: by the budget, and by the last state.
-- Assumes nothing.
use native.Mathlib.Omega.{arith}
use Rattle.runner.specs.LastState.{Reached}
use Rattle.runner.proofs.LastLaws.{is_refused, is_reached, finish_given}
use Rattle.runner.proofs.EntryLaws.{too_large_end, files_end, last_end}
use Rattle.runner.proofs.entry.run_budget.Goals as goal

pub returns-then-budget-gt16384 : goal.returns-then-budget-gt16384
returns-then-budget-gt16384 c =
    let a = c.args in
    too_large_end a.table.now a.job.now a.budget a.out.now _ (omega (arith, c.if-budget-gt16384.true)) c.refused.ensures

pub finish-requires : goal.finish-requires
finish-requires c =
    let last = is_reached _ _ _ _ _ c.run_files.ensures _ c.in-Ok.is in
    finish_given _ _ _ _ _ _ _ last (omega (arith, c.if-budget-gt16384.false)) (omega (arith, c.requires, c.run_files.auto.work))

pub returns-in-Ok : goal.returns-in-Ok
returns-in-Ok c =
    let last = is_reached _ _ _ _ _ c.run_files.ensures _ c.in-Ok.is in
    last_end _ _ _ (omega (arith, c.if-budget-gt16384.false)) _ _ _ _ last _ _ _ c.finish.ensures

pub returns-in-Err : goal.returns-in-Err
returns-in-Err c = files_end _ _ _ (omega (arith, c.if-budget-gt16384.false)) _ _ (is_refused _ _ _ _ _ c.run_files.ensures _ c.in-Err.is)
