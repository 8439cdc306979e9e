-- From an answer of the code back to the result that it tells: a value with those parts, or a refusal with that cause and place.
-- Assumes nothing.
use Rattle.std.specs.Prelude.{Ok, Err}
use mathlib.Core.Path.{◌≡◌}
use mathlib.Core.List.{List}
use Prim.Native.Nat.{ℕ}
use Rattle.format.specs.declared.refusals.Refusal.{Refusal}
use Rattle.format.specs.Results.{gives, refused}
use Rattle.format.specs.Terms.{Term}
use Rattle.files.specs.declared.proofs.ProofParts.{ProofParts}
use Rattle.files.specs.declared.jobs.JobParts.{JobParts}
use Rattle.files.specs.declared.flats.FlatParts.{FlatParts}
use Rattle.files.specs.Proofs.{Proof, read_proof_fields}
use Rattle.files.specs.Jobs.{Job, read_job}
use Rattle.files.specs.TermFiles.{read_term_file}
use Rattle.files.specs.Derivations.{Derivation, read_flat}
use Rattle.files.specs.Shapes.{parts_of, proof_shape, job_parts_of, job_shape, term_file_shape, flat_parts_of, flat_shape}
use Rattle.files.proofs.ToldLaws.{answers_tell, told_value, told_cause}

module _ (s : List ℕ) where
  pub proof_read : (q : ProofParts) → proof_shape (read_proof_fields s) ≡ Ok q → (p : Proof) × (read_proof_fields s ≡ gives p) × (parts_of p ≡ q)
  unfolding proof_shape
  proof_read q e = told_value answers_tell parts_of (read_proof_fields s) q e

  pub proof_refused : (r : Refusal) → proof_shape (read_proof_fields s) ≡ Err r → read_proof_fields s ≡ refused r.cause r.place
  unfolding proof_shape
  proof_refused r e = told_cause answers_tell parts_of (read_proof_fields s) r.cause r.place e

  pub job_read : (q : JobParts) → job_shape (read_job s) ≡ Ok q → (j : Job) × (read_job s ≡ gives j) × (job_parts_of j ≡ q)
  unfolding job_shape
  job_read q e = told_value answers_tell job_parts_of (read_job s) q e

  pub job_refused : (r : Refusal) → job_shape (read_job s) ≡ Err r → read_job s ≡ refused r.cause r.place
  unfolding job_shape
  job_refused r e = told_cause answers_tell job_parts_of (read_job s) r.cause r.place e

  pub term_file_read : term_file_shape (read_term_file s) ≡ Ok tt → (t : Term) × (read_term_file s ≡ gives t)
  unfolding term_file_shape
  term_file_read e = let v = told_value answers_tell (λ t. tt) (read_term_file s) tt e in (v.0, v.1)

  pub term_file_refused : (r : Refusal) → term_file_shape (read_term_file s) ≡ Err r → read_term_file s ≡ refused r.cause r.place
  unfolding term_file_shape
  term_file_refused r e = told_cause answers_tell (λ t. tt) (read_term_file s) r.cause r.place e

  pub flat_read : (q : FlatParts) → flat_shape (read_flat s) ≡ Ok q → (d : Derivation) × (read_flat s ≡ gives d) × (flat_parts_of d ≡ q)
  unfolding flat_shape
  flat_read q e = told_value answers_tell flat_parts_of (read_flat s) q e

  pub flat_refused : (r : Refusal) → flat_shape (read_flat s) ≡ Err r → read_flat s ≡ refused r.cause r.place
  unfolding flat_shape
  flat_refused r e = told_cause answers_tell flat_parts_of (read_flat s) r.cause r.place e
