-- `Reached::finish_proved` meets its contract: by the length of the output space.
-- Assumes nothing.
use native.Mathlib.Omega.{arith}
use Rattle.format.specs.Refusals.{number}
use Rattle.runner.proofs.JobLaws.{finish_small, file_given, short_end, success_end}
use Rattle.runner.proofs.last.Reached.finish_proved.Goals as goal

pub overflow_add-size : goal.overflow_add-size
overflow_add-size c =
    let a = c.args in
    let p = c.requires in
    let z = finish_small a.job.now a.self.term a.work.now a.self.state p.0 p.1 in
    omega (arith, z)

pub overflow_add-size-2 : goal.overflow_add-size-2
overflow_add-size-2 c =
    let a = c.args in
    let p = c.requires in
    let z = finish_small a.job.now a.self.term a.work.now a.self.state p.0 p.1 in
    omega (arith, z)

pub overflow_mul-size : goal.overflow_mul-size
overflow_mul-size c =
    let a = c.args in
    let p = c.requires in
    let z = finish_small a.job.now a.self.term a.work.now a.self.state p.0 p.1 in
    omega (arith, z)

pub overflow_add-size-3 : goal.overflow_add-size-3
overflow_add-size-3 c =
    let a = c.args in
    let p = c.requires in
    let z = finish_small a.job.now a.self.term a.work.now a.self.state p.0 p.1 in
    omega (arith, z)

pub refused-requires : goal.refused-requires
refused-requires c =
    let p = c.requires in
    (omega arith, omega (arith, p.1.few_steps))

pub returns-then-out-size : goal.returns-then-out-size
unfolding number
returns-then-out-size c =
    let a = c.args in
    let p = c.requires in
    short_end a.job.now a.self.term a.work.now a.self.state p.0 p.1 a.out.now _ (omega (arith, c.if-out-size.true)) c.refused.ensures

pub write_file-requires : goal.write_file-requires
write_file-requires c =
    let a = c.args in
    let p = c.requires in
    file_given a.job.now a.self.term a.work.now a.self.state p.0 p.1 a.out.now (omega (arith, c.if-out-size.false))

pub wrote-requires : goal.wrote-requires
wrote-requires c =
    let a = c.args in
    let p = c.requires in
    let z = finish_small a.job.now a.self.term a.work.now a.self.state p.0 p.1 in
    (omega (arith, z), omega (arith, p.1.few_steps))

pub returns : goal.returns
returns c =
    let a = c.args in
    let p = c.requires in
    success_end a.job.now a.self.term a.work.now a.self.state p.0 p.1 a.out.now _ _ (omega (arith, c.if-out-size.false)) c.write_file.ensures c.wrote.ensures
