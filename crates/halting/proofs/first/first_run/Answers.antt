-- `first::first_run` meets its contract: by the budget, by how the files read, and by the last state.
-- Assumes nothing.
use Prim.Native.Nat.{◌≤◌}
use mathlib.Core.Path.{sym, ◌∙◌}
use native.Mathlib.Omega.{arith}
use borrow.Author.Tests.{ltb-true, ltb-false}
use Rattle.format.specs.Limits.{most_steps}
use Rattle.runner.proofs.LastLaws.{is_refused, is_reached, finish_given}
use Rattle.halting.proofs.FirstLaws.{limit_end, files_end, run_end}
use Rattle.halting.proofs.first.first_run.Goals as goal

pub returns-then-over_limit : goal.returns-then-over_limit
returns-then-over_limit c = limit_end _ _ _ _ _ _ _ (omega (arith, ltb-true _ _ (sym c.over_limit.ensures ∙ c.if-over_limit.true))) c.refused-answer.ensures c.refused.ensures

pub run_files-requires : goal.run_files-requires
run_files-requires c = (omega (arith, ltb-false _ _ (sym c.over_limit.ensures ∙ c.if-over_limit.false)), c.requires)

pub answered-requires : goal.answered-requires
answered-requires c =
    let fits : c.args.budget ≤ most_steps = omega (arith, ltb-false _ _ (sym c.over_limit.ensures ∙ c.if-over_limit.false)) in
    finish_given _ _ _ _ _ _ _ (is_reached _ _ _ _ _ c.run_files.ensures _ c.in-Ok.is) fits (omega (arith, c.requires, c.run_files.auto.work))

pub returns-in-Ok : goal.returns-in-Ok
returns-in-Ok c =
    let fits : c.args.budget ≤ most_steps = omega (arith, ltb-false _ _ (sym c.over_limit.ensures ∙ c.if-over_limit.false)) in
    run_end _ _ _ _ _ fits _ _ _ _ _ (is_reached _ _ _ _ _ c.run_files.ensures _ c.in-Ok.is) c.answered.ensures

pub returns-in-Err : goal.returns-in-Err
returns-in-Err c =
    let fits : c.args.budget ≤ most_steps = omega (arith, ltb-false _ _ (sym c.over_limit.ensures ∙ c.if-over_limit.false)) in
    files_end _ _ _ _ _ fits _ _ (is_refused _ _ _ _ _ c.run_files.ensures _ c.in-Err.is) c.refused-in-Err.ensures
