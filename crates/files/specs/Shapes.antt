-- The answers of the readers in the code: cause and place of a refusal, or the parts of what was read, computed from it alone.
use Rattle.std.specs.Prelude.{ℕ, Ok, length}
use Rattle.std.specs.Prelude as std
use Rattle.format.specs.declared.refusals.Refusal.{Refusal}
use Rattle.format.specs.Results.{Result, told, refused_at}
use Rattle.format.specs.Terms.{Term}
use Rattle.parts.specs.declared.state.State.{State}
use Rattle.parts.specs.States.{told_state}
use Rattle.files.specs.declared.proofs.ProofParts.{ProofParts}
use Rattle.files.specs.declared.jobs.JobParts.{JobParts}
use Rattle.files.specs.declared.flats.FlatParts.{FlatParts}
use Rattle.files.specs.Proofs.{Proof, term_place, remaining_place}
use Rattle.files.specs.Jobs.{Job}
use Rattle.files.specs.Derivations.{Derivation, entries_place}
use Rattle.files.specs.Counts.{job_term_place, uses_in, opens_in}

-- the parts of a proof: the number of goals, the place of the term, the place of the remaining list, which is the term's end, and the number of remaining goals
abbrev pub proof_parts : (goals term rest remaining : ℕ) → ProofParts
proof_parts g t r m = record { goals = g; term = t; rest = r; remaining = m }

unfoldable pub parts_of : Proof → ProofParts
parts_of p = proof_parts (length p.goals) (term_place p) (remaining_place p) (length p.remaining)

unfoldable pub proof_shape : Result Proof → std.Result ProofParts Refusal
proof_shape x = told refused_at (λ p. Ok (parts_of p)) x

-- what is kept of a state of a proof, and what a state in which nothing is left to read tells
abbrev pub proof_kept : State → ProofParts
proof_kept x = proof_parts x.goals x.from x.rest x.second

abbrev pub told_proof : State → std.Result ProofParts Refusal
told_proof x = told_state proof_kept x

-- the parts of a job: the number of goals and the place of the term
abbrev pub job_parts : (goals term : ℕ) → JobParts
job_parts g t = record { goals = g; term = t }

unfoldable pub job_parts_of : Job → JobParts
job_parts_of j = job_parts (length j.goals) (job_term_place j)

unfoldable pub job_shape : Result Job → std.Result JobParts Refusal
job_shape x = told refused_at (λ j. Ok (job_parts_of j)) x

-- the same of a job
abbrev pub job_kept : State → JobParts
job_kept x = job_parts x.goals x.from

abbrev pub told_job : State → std.Result JobParts Refusal
told_job x = told_state job_kept x

-- of a term file, that it has a term
unfoldable pub term_file_shape : Result Term → std.Result (Unit {0}) Refusal
term_file_shape x = told refused_at (λ t. Ok tt) x

-- the same of a term file
abbrev pub told_term_file : State → std.Result (Unit {0}) Refusal
told_term_file x = told_state (λ y. tt) x

-- the parts of a flat file: the number of roots, the place of the first entry, and the numbers of use and open entries
abbrev pub flat_parts : (roots first uses opens : ℕ) → FlatParts
flat_parts r a u o = record { roots = r; first = a; uses = u; opens = o }

unfoldable pub flat_parts_of : Derivation → FlatParts
flat_parts_of d = flat_parts (length d.roots) (entries_place d) (uses_in d.entries) (opens_in d.entries)

unfoldable pub flat_shape : Result Derivation → std.Result FlatParts Refusal
flat_shape x = told refused_at (λ d. Ok (flat_parts_of d)) x

-- the same of a flat file
abbrev pub flat_kept : State → FlatParts
flat_kept x = flat_parts x.goals x.from x.first x.second

abbrev pub told_flat : State → std.Result FlatParts Refusal
told_flat x = told_state flat_kept x
