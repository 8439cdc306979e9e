-- `job::start` meets its contract: the goals copied, nothing begun.
-- Assumes nothing.
use native.Mathlib.Omega.{arith}
use Rattle.searcher.proofs.JobLaws.{start_few, start_end}
use Rattle.searcher.proofs.job.start.Goals as goal

pub overflow_mul-parts : goal.overflow_mul-parts
overflow_mul-parts c =
    let a = c.args in
    let f = start_few a.below a.job.now a.parts a.work.now c.requires in omega (arith, f)

pub copy_in-requires : goal.copy_in-requires
copy_in-requires c =
    let a = c.args in
    let p = c.requires in
    let f = start_few a.below a.job.now a.parts a.work.now p in (f.1, omega (arith, f.0, p.space))

pub overflow_mul-result : goal.overflow_mul-result
overflow_mul-result c = omega (arith, c.requires.few_levels)

pub overflow_add-result : goal.overflow_add-result
overflow_add-result c = omega (arith, c.requires.few_levels)

pub overflow_mul-result-2 : goal.overflow_mul-result-2
overflow_mul-result-2 c =
    let a = c.args in
    let f = start_few a.below a.job.now a.parts a.work.now c.requires in omega (arith, f)

pub overflow_add-result-2 : goal.overflow_add-result-2
overflow_add-result-2 c =
    let a = c.args in
    let f = start_few a.below a.job.now a.parts a.work.now c.requires in omega (arith, f)

pub returns : goal.returns
returns c = let a = c.args in start_end a.below a.job.now a.parts a.work.now _ c.requires c.copy_in.ensures
