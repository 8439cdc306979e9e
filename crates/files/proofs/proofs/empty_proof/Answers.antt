-- `proofs::empty_proof` meets its contract: the constant is the encoding, byte by byte.
-- Assumes nothing.
use mathlib.Core.Path.{sym}
use Rattle.files.proofs.EmptyProof.{empty_bytes}
use Rattle.files.proofs.proofs.empty_proof.Goals as goal

pub returns : goal.returns
returns c = sym empty_bytes
