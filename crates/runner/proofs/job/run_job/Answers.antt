-- `job::run_job` meets its contract: the arities, the first state, and the run.
-- Assumes nothing.
use Rattle.runner.proofs.JobLaws.{fill_given, start_given, run_given, job_ran}
use Rattle.runner.proofs.job.run_job.Goals as goal

pub fill_arities-requires : goal.fill_arities-requires
fill_arities-requires c =
    let a = c.args in
    fill_given a.table.now a.fields.first a.fields.definitions a.job.now a.parts a.budget a.work.now c.requires

pub start-s-requires : goal.start-s-requires
start-s-requires c =
    let a = c.args in
    start_given a.table.now a.fields.first a.fields.definitions a.job.now a.parts a.budget a.work.now c.requires _ c.fill_arities.ensures

pub run_steps-requires : goal.run_steps-requires
run_steps-requires c =
    let a = c.args in
    run_given a.table.now a.fields.first a.fields.definitions a.job.now a.parts a.budget a.work.now c.requires _ c.fill_arities.ensures _ _ c.start-s.ensures

pub returns : goal.returns
returns c =
    let a = c.args in
    job_ran a.table.now a.fields.first a.fields.definitions a.job.now a.parts a.budget a.work.now c.requires _ c.fill_arities.ensures _ _ c.start-s.ensures _ _ c.run_steps.ensures
