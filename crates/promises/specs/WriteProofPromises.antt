-- Demand 3, second half, for the entry write_proof, as statements about its definition: "every right derivation within the sizes is written as a proof that is accepted and
-- flattens back to exactly its bytes".
use Rattle.std.specs.Prelude.{ℕ, ◌*◌, ◌-◌, ◌≤◌, ◌<◌, ◌≡◌, ◌⊎◌, List, ◌++◌, length, drop, replicate}
use Rattle.format.specs.Encoding.{Bytes}
use Rattle.format.specs.Results.{gives}
use Rattle.format.specs.Terms.{Term, fields}
use Rattle.tables.specs.Tables.{HasRule}
use Rattle.files.specs.Proofs.{Proof, read_proof, proof_bytes}
use Rattle.files.specs.Derivations.{Derivation}
use Rattle.hitac.specs.Forest.{leaves}
use Rattle.hitac.specs.Writes.{Writes}
use Rattle.answers.specs.Answers as answer
use Rattle.entries.specs.LentSpace.{Written}
use Rattle.entries.specs.Check.{flatten_work, flatten}
use Rattle.entries.specs.CheckFlat.{write_proof_work, write_proof}
use Rattle.promises.specs.Accepted.{Accepted}
use Rattle.promises.specs.Right.{Right}
use Rattle.promises.specs.Ended.{InOther, EndsWritten}
use Rattle.promises.specs.CheckFlatPromises.{CheckFlatRefuses}

-- what a call that writes these bytes leaves: its answer, the work space all zero, the bytes and behind them what was there
abbrev pub wrote : (bytes work out : List ℕ) → Written
wrote bytes work out = record { answer = answer.wrote (length bytes) 0; work = replicate (length work) 0; out = bytes ++ drop (length bytes) out }

-- "Writing a proof: the stated goals are the roots, the remaining ones those of the open leaves in order, and the term is the whole forest", as the rules of `Writes` say
abbrev pub proof_of : Derivation → Term → Proof
proof_of d u = record { goals = d.roots; term = u; remaining = leaves d.entries }

-- the proof that is written for a right derivation
pub record WritesBack (t f : List ℕ) (r : Right t f) : Type 0 where
  pub term : Term
  pub by_rules : Writes (HasRule r.the_table) r.the_derivation.roots r.the_derivation.entries term
  pub result : (w o : List ℕ) → write_proof_work ≤ length w → length (proof_bytes (proof_of r.the_derivation term)) ≤ length o
      → write_proof t f w o ≡ wrote (proof_bytes (proof_of r.the_derivation term)) w o
  pub reads_back : read_proof (proof_bytes (proof_of r.the_derivation term)) ≡ gives (proof_of r.the_derivation term)
  pub accepted : Accepted t (proof_bytes (proof_of r.the_derivation term))
  pub flattens : (w o : List ℕ) → flatten_work ≤ length w → length f ≤ length o → flatten t (proof_bytes (proof_of r.the_derivation term)) w o ≡ wrote f w o
  pub term_fields : 0 < length r.the_derivation.entries → fields term ≡ 2 * length r.the_derivation.entries - 1

abbrev pub Writes-back : Type 0
Writes-back = (t f : List ℕ) → Bytes f → (r : Right t f) → length r.the_derivation.entries ≤ 2048 → WritesBack t f r

-- Demand 1: 28, without a place, then 27, at an entry or at the end of the file; then 26
abbrev pub WriteRefuses : (flat : List ℕ) → (number place : ℕ) → Type 0
WriteRefuses flat n q = ((n ≡ 28) × (q ≡ 0)) ⊎ CheckFlatRefuses flat n q

abbrev pub Write-ends : Type 0
Write-ends = (t f w o : List ℕ) → EndsWritten t f w o write_proof_work (InOther (WriteRefuses f)) (write_proof t f w o)
