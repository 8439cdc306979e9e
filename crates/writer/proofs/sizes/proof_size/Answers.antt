-- `sizes::proof_size` meets its contract: the sum of the sizes of the three parts.
-- Assumes nothing.
use Prim.Native.Nat.{◌≤◌}
use native.Mathlib.Omega.{arith}
use Rattle.writer.specs.Sizes.{proof_size}
use Rattle.writer.proofs.SizeLaws.{term_size_most}
use Rattle.writer.proofs.sizes.proof_size.Goals as goal

pub overflow_add-result-2 : goal.overflow_add-result-2
overflow_add-result-2 c =
    let small : c.term_size-term.result ≤ 65535 = omega (arith, c.term_size-term.ensures, term_size_most c.args.uses c.args.opens, c.requires.1, c.requires.2) in
    omega (arith, small)

pub overflow_add-result-4 : goal.overflow_add-result-4
overflow_add-result-4 c =
    let small : c.term_size-term.result ≤ 65535 = omega (arith, c.term_size-term.ensures, term_size_most c.args.uses c.args.opens, c.requires.1, c.requires.2) in
    omega (arith, small)

pub returns : goal.returns
unfolding proof_size
returns c = rw c.term_size-term.ensures
