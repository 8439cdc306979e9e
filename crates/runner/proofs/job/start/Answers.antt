-- `job::start` meets its contract: the goals copied, nothing begun.
-- Assumes nothing.
use native.Mathlib.Omega.{arith}
use Rattle.runner.proofs.JobLaws.{start_few, start_end}
use Rattle.runner.proofs.job.start.Goals as goal

pub overflow_mul-parts : goal.overflow_mul-parts
overflow_mul-parts c =
    let a = c.args in
    let p = c.requires in
    let f = start_few a.job.now a.parts a.work.now p in
    omega (arith, f)

pub copy_in-requires : goal.copy_in-requires
copy_in-requires c =
    let a = c.args in
    let p = c.requires in
    let f = start_few a.job.now a.parts a.work.now p in
    (f.1, omega (arith, f.0, p.space))

pub overflow_mul-result : goal.overflow_mul-result
overflow_mul-result c =
    let a = c.args in
    let p = c.requires in
    let f = start_few a.job.now a.parts a.work.now p in
    omega (arith, f)

pub overflow_add-result : goal.overflow_add-result
overflow_add-result c =
    let a = c.args in
    let p = c.requires in
    let f = start_few a.job.now a.parts a.work.now p in
    omega (arith, f)

pub returns : goal.returns
returns c =
    let a = c.args in
    let p = c.requires in
    start_end a.job.now a.parts a.work.now _ p c.copy_in.ensures
