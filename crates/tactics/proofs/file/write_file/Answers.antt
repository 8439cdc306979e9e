-- `file::write_file` meets its contract: the job's list, the hiproof, a header and the goals, one behind the other.
-- Assumes nothing.
use native.Mathlib.Omega.{arith}
use Rattle.tactics.proofs.FileLaws.{write_end}
use Rattle.tactics.proofs.file.write_file.Goals as goal

pub returns : goal.returns
returns c =
    let a = c.args in
    write_end a.job.now a.term a.work.now a.from a.bytes a.start a.count a.out.now c.requires (λ i. omega (arith, c.type_inv.job i)) (λ i. omega (arith, c.type_inv.work i)) _ _ _ _ c.copy_in.ensures c.copy_in-2.ensures c.put_header.ensures c.copy_in-3.ensures
