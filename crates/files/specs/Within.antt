-- Document 01, "Fields": the limits of a proof, of a job, of a term by itself and of a derivation; "Values in contents are 16 bits wide".
-- The numbers stand here once more: what is proved of reading then also holds the constants of the readers to the document.
use Rattle.std.specs.Prelude.{ℕ, ◌≤◌, ◌<◌, ◌≡◌, ◌⊎◌, List, [], ◌∷◌, length}
use Rattle.format.specs.Terms.{Term, fields, Hiproof}
use Rattle.format.specs.Encoding.{GoalValues, TermValues}
use Rattle.files.specs.Proofs.{Proof, proof_bytes, empty_proof}
use Rattle.files.specs.Jobs.{Job}
use Rattle.files.specs.Derivations.{Entry, use_entry, open_entry, Derivation}
use Rattle.files.specs.Counts.{uses_in, opens_in}

pub record ProofWithin (p : Proof) : Type 0 where
  pub few_goals : length p.goals ≤ 256
  pub goal_values : GoalValues p.goals
  pub hiproof : Hiproof p.term
  pub few_fields : fields p.term ≤ 4096
  pub term_values : TermValues p.term
  pub few_remaining : length p.remaining ≤ 256
  pub remaining_values : GoalValues p.remaining

-- the files that read as a proof: its encoding, if the proof is within the limits; and, of the empty proof, no bytes too (document 02, P7)
abbrev pub ProofFile : List ℕ → Proof → Type 0
ProofFile s p = ((s ≡ proof_bytes p) × ProofWithin p) ⊎ ((s ≡ []) × (p ≡ empty_proof))

pub record JobWithin (j : Job) : Type 0 where
  pub few_goals : length j.goals ≤ 256
  pub goal_values : GoalValues j.goals
  pub few_fields : fields j.term ≤ 4096
  pub term_values : TermValues j.term

pub record TermFileWithin (t : Term) : Type 0 where
  pub few_fields : fields t ≤ 4096
  pub term_values : TermValues t

unfoldable pub EntryValues : List Entry → Type 0
EntryValues [] = Unit {0}
EntryValues (use_entry a γ ∷ es) = (a.0 < 65536) × (γ.0 < 65536) × EntryValues es
EntryValues (open_entry γ ∷ es) = (γ.0 < 65536) × EntryValues es

pub record FlatWithin (d : Derivation) : Type 0 where
  pub few_roots : length d.roots ≤ 256
  pub root_values : GoalValues d.roots
  pub few_uses : uses_in d.entries ≤ 4096
  pub few_opens : opens_in d.entries ≤ 256
  pub entry_values : EntryValues d.entries
