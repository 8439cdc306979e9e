-- `job::finish` meets its contract: by the mode of the last state.
-- Assumes nothing.
use Rattle.searcher.proofs.JobLaws.{spent_end, none_end}
use Rattle.searcher.proofs.job.finish.Goals as goal

pub returns-in-Running : goal.returns-in-Running
returns-in-Running c = let a = c.args in spent_end a.job.now a.work.now a.s a.out.now _ c.in-Running.is c.refused.ensures

pub returns-in-Lost : goal.returns-in-Lost
returns-in-Lost c = let a = c.args in none_end a.job.now a.work.now a.s a.out.now _ c.in-Lost.is c.refused-in-Lost.ensures
