-- A file of fewer than three bytes has no header: 2 at place 0, whatever the bytes are, by the first test of reading a header. Of a proof file, if it has a byte.
-- Assumes nothing.
use mathlib.Core.Path.{◌≡◌, ◌∙◌}
use mathlib.Core.List.{List}
use Prim.Native.Nat.{ℕ, zero, suc, ◌+◌, ◌<◌}
use native.Mathlib.Omega.{arith}
use lib.ListN.{length}
use borrow.Author.Tests.{lt-ltb, le-ltb}
use Rattle.format.specs.Limits.{most_bytes}
use Rattle.format.specs.declared.refusals.Cause.TheVariants.{FieldTorn}
use Rattle.format.specs.Results.{Result, refused, and_then}
use Rattle.format.specs.Inputs.{of_size}
use Rattle.format.specs.Tags.{tactic_kind}
use Rattle.format.specs.Headers.{header_at}
use Rattle.format.specs.Goals.{ParsedGoals, read_goals}
use Rattle.format.specs.ReadTerms.{read_term}
use Rattle.files.specs.Proofs.{read_proof_fields, proof_of, read_proof}
use Rattle.files.specs.Jobs.{read_last_term, job_of, read_job}
use Rattle.files.specs.TermFiles.{read_term_file}
use Rattle.files.specs.Derivations.{derivation_of, read_flat}
use Rattle.files.proofs.EmptyProof.{read_itself}

module _ (s : List ℕ) (short : length s < 3) where
  -- no list of goals begins there
  no_list : {A : Type 0} (next : ParsedGoals → Result A) → of_size s (and_then (read_goals s 0 (length s)) next) ≡ refused FieldTorn 0
  unfolding read_goals header_at and_then
  no_list next = rw (le-ltb most_bytes (length s) (omega (arith, short)), lt-ltb (length s) 3 short)

  pub proof_short : 0 < length s → read_proof s ≡ refused FieldTorn 0
  unfolding read_proof_fields
  proof_short some = read_itself s some ∙ no_list (proof_of s)

  pub job_short : read_job s ≡ refused FieldTorn 0
  unfolding read_job
  job_short = no_list (job_of s)

  pub flat_short : read_flat s ≡ refused FieldTorn 0
  unfolding read_flat
  flat_short = no_list (derivation_of s)

  -- and no term
  no_term : (depth : ℕ) → 0 < depth → (high before : ℕ) → read_term depth s high 0 (length s) before ≡ refused FieldTorn 0
  unfolding read_term header_at and_then
  no_term zero some high before = absurd (omega (arith, some))
  no_term (suc d) some high before = rw (lt-ltb (length s) 3 short)

  pub term_file_short : read_term_file s ≡ refused FieldTorn 0
  unfolding read_term_file read_last_term and_then
  term_file_short = rw (le-ltb most_bytes (length s) (omega (arith, short)), no_term (length s + 1) (omega arith) tactic_kind 0)
