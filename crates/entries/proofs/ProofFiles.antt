-- What comes of a proof file: in an entry the same as of the bytes that are read of it; in the check program what check answers, of the file, or of one byte where it was not opened.
-- Assumes nothing.
use mathlib.Core.Path.{◌≡◌, refl, sym, ap}
use mathlib.Core.Bool.{true, false}
use mathlib.Core.List.{List, [], ◌∷◌}
use Prim.Native.Nat.{ℕ}
use native.Mathlib.Omega.{arith}
use Rattle.tables.specs.Tables.{Table}
use Rattle.files.specs.Proofs.{Proof, or_empty_proof}
use Rattle.files.proofs.EmptyProof.{read_alike}
use Rattle.files.proofs.ShortFiles.{proof_short}
use Rattle.entries.specs.LentSpace.{check_in}
use Rattle.entries.specs.Check.{on_proof, proof_counts, check_work, check}
use Rattle.entries.specs.CheckProgram.{without_proof, program_outcome, check_program}

pub bytes_read : {A : Type 0} (value : Table → Proof → A) (t s : List ℕ) → on_proof value t (or_empty_proof s) ≡ on_proof value t s
unfolding on_proof
bytes_read value t s = rw (read_alike s)

-- the check program, by whether proof.hip was opened; where it was not, a proof file of one byte is refused alike
pub opened_checks : (t p w : List ℕ) → check_program t p true w ≡ check t p w
unfolding check_program program_outcome check
opened_checks t p w = refl

one_byte : (t : List ℕ) (b : ℕ) → on_proof proof_counts t (b ∷ []) ≡ without_proof t
unfolding on_proof without_proof
one_byte t b = rw (proof_short (b ∷ []) (omega arith) (omega arith))

pub unopened_checks : (t p w : List ℕ) (b : ℕ) → check_program t p false w ≡ check t (b ∷ []) w
unfolding check_program program_outcome check
unopened_checks t p w b = ap (check_in check_work w) (sym (one_byte t b))
