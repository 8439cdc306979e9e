-- `Reached::finish` meets its contract: by the mode of the last state.
-- Assumes nothing.
use Rattle.runner.proofs.JobLaws.{spent_end, failed_end, overflow_end, exceed_end, other_end}
use Rattle.runner.proofs.last.Reached.finish.Goals as goal

pub returns-in-Running : goal.returns-in-Running
returns-in-Running c = spent_end _ _ _ _ _ c.in-Running.is c.refused.ensures

pub returns-in-Failed : goal.returns-in-Failed
returns-in-Failed c = failed_end _ _ _ _ _ c.in-Failed.is c.refused-in-Failed.ensures

pub returns-in-Overflowed : goal.returns-in-Overflowed
returns-in-Overflowed c = overflow_end _ _ _ _ _ c.in-Overflowed.is c.refused-in-Overflowed.ensures

pub returns-in-Exceeded : goal.returns-in-Exceeded
returns-in-Exceeded c = exceed_end _ _ _ _ _ c.in-Exceeded.is c.refused-in-Exceeded.ensures

pub returns-in-Other : goal.returns-in-Other
returns-in-Other c = other_end _ _ _ _ _ _ c.in-Other.is c.refused-in-Other.ensures
