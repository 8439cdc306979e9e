-- `again::run_again` meets its contract: by both budgets, and by what comes of the files and of the steps.
-- Assumes nothing.
use Prim.Native.Nat.{◌+◌, ◌≤◌}
use native.Mathlib.Omega.{arith}
use Rattle.format.specs.Limits.{most_steps}
use Rattle.entries.specs.Halting.{steps_of}
use Rattle.halting.proofs.AgainLaws.{over, within, limit_again, run_again}
use Rattle.halting.proofs.again.run_again.Goals as goal

pub returns-then-over_limit : goal.returns-then-over_limit
returns-then-over_limit c =
    let a = c.args in
    limit_again _ _ _ _ _ _ (over a.saved.now _ a.budget c.steps_of-held.ensures _ c.over_limit.ensures c.if-over_limit.true) c.refused.ensures

pub run_files-requires : goal.run_files-requires
run_files-requires c =
    let fits : steps_of c.args.saved.now + c.args.budget ≤ most_steps = within _ c.steps_of-held.result _ c.steps_of-held.ensures _ c.over_limit.ensures c.if-over_limit.false in
    (omega (arith, fits, c.steps_of-held.ensures), c.requires)

pub returns : goal.returns
returns c =
    let fits : steps_of c.args.saved.now + c.args.budget ≤ most_steps = within _ c.steps_of-held.result _ c.steps_of-held.ensures _ c.over_limit.ensures c.if-over_limit.false in
    run_again _ _ _ _ _ fits _ c.steps_of-held.ensures _ c.run_files.ensures
