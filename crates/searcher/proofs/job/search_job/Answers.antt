-- `job::search_job` meets its contract: the first state, the search, and its end.
-- Assumes nothing.
use Rattle.searcher.proofs.JobLaws.{start_given, run_given, finish_given, job_end}
use Rattle.searcher.proofs.job.search_job.Goals as goal

pub start-s-requires : goal.start-s-requires
start-s-requires c = let a = c.args in start_given a.table.now a.first a.job.now a.parts a.below a.budget a.work.now c.requires

pub search_steps-r-requires : goal.search_steps-r-requires
search_steps-r-requires c = let a = c.args in run_given a.table.now a.first a.job.now a.parts a.below a.budget a.work.now c.requires _ _ c.start-s.ensures

pub finish-requires : goal.finish-requires
finish-requires c = let a = c.args in finish_given a.table.now a.first a.job.now a.parts a.below a.budget a.work.now c.requires _ _ c.start-s.ensures _ _ c.search_steps-r.ensures

pub returns : goal.returns
returns c = let a = c.args in job_end a.table.now a.first a.job.now a.parts a.below a.budget a.work.now c.requires _ _ c.start-s.ensures _ _ c.search_steps-r.ensures _ _ _ c.finish.ensures
