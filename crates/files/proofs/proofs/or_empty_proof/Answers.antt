-- `proofs::or_empty_proof` meets its contract: its test is the length.
-- Assumes nothing.
use mathlib.Core.Path.{sym, ◌∙◌}
use native.Mathlib.Omega.{arith}
use borrow.Author.Tests.{eqb-true, eqb-false}
use Rattle.files.proofs.EmptyProof.{itself, none}
use Rattle.files.proofs.proofs.or_empty_proof.Goals as goal

-- no byte
pub returns-then-is_empty : goal.returns-then-is_empty
returns-then-is_empty c = c.requires ∙ sym (none _ (eqb-true _ 0 (sym c.if-is_empty.ensures)))

-- a byte at least
pub returns-else-is_empty : goal.returns-else-is_empty
returns-else-is_empty c = let n = eqb-false _ 0 (sym c.if-is_empty.ensures) in sym (itself _ (omega (arith, n)))
