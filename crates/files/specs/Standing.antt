-- What it is for a proof, a job, a term by itself and a derivation to stand in a file, within the limits: how code that walks over bytes speaks of them.
use Rattle.std.specs.Prelude.{ℕ, ◌+◌, ◌*◌, ◌≤◌, ◌≡◌, List, [], ◌∷◌, length}
use Rattle.words.specs.Word.{word}
use Rattle.format.specs.declared.values.Goal.{Goal}
use Rattle.format.specs.Limits.{most_bytes, most_goals, most_term_fields, most_uses, most_opens}
use Rattle.format.specs.Terms.{Term, size, fields, Hiproof}
use Rattle.format.specs.Goals.{goals_at}
use Rattle.format.specs.Standing.{Head, Stands}
use Rattle.files.specs.Proofs.{Proof, term_place, remaining_place}
use Rattle.files.specs.Jobs.{Job}
use Rattle.files.specs.Derivations.{Entry, use_entry, open_entry, Derivation, entries_place}
use Rattle.files.specs.Counts.{job_term_place, uses_in, opens_in}

-- the field of a goal list stands at a place, with its goals
pub record ListStands (s : List ℕ) (at : ℕ) (g : List Goal) : Type 0 where
  pub head : Head s at 3 (length g * 2)
  pub goals_are : g ≡ goals_at s (at + 3) (length g)
  pub few : length g ≤ most_goals

-- the entries' fields, each with its tag, its length and its values, stand one behind the other from a place up to another
unfoldable pub EntriesStand : List ℕ → (at end : ℕ) → List Entry → Type 0
EntriesStand s at end [] = at ≡ end
EntriesStand s at end (use_entry a γ ∷ es) = Head s at 32 4 × (word s (at + 3) ≡ a.0) × (word s (at + 5) ≡ γ.0) × EntriesStand s (at + 7) end es
EntriesStand s at end (open_entry γ ∷ es) = Head s at 33 2 × (word s (at + 3) ≡ γ.0) × EntriesStand s (at + 5) end es

pub record ProofStands (s : List ℕ) (p : Proof) : Type 0 where
  pub short : length s ≤ most_bytes
  pub goals_stand : ListStands s 0 p.goals
  pub term_stands : Stands s (term_place p) p.term
  pub hiproof : Hiproof p.term
  pub few_fields : fields p.term ≤ most_term_fields
  pub remaining_stand : ListStands s (remaining_place p) p.remaining
  pub end_is : remaining_place p + 3 + length p.remaining * 2 ≡ length s

pub record JobStands (s : List ℕ) (j : Job) : Type 0 where
  pub short : length s ≤ most_bytes
  pub goals_stand : ListStands s 0 j.goals
  pub term_stands : Stands s (job_term_place j) j.term
  pub few_fields : fields j.term ≤ most_term_fields
  pub end_is : job_term_place j + size j.term ≡ length s

pub record TermFileStands (s : List ℕ) (t : Term) : Type 0 where
  pub short : length s ≤ most_bytes
  pub term_stands : Stands s 0 t
  pub few_fields : fields t ≤ most_term_fields
  pub end_is : size t ≡ length s

pub record FlatStands (s : List ℕ) (d : Derivation) : Type 0 where
  pub short : length s ≤ most_bytes
  pub roots_stand : ListStands s 0 d.roots
  pub entries_stand : EntriesStand s (entries_place d) (length s) d.entries
  pub few_uses : uses_in d.entries ≤ most_uses
  pub few_opens : opens_in d.entries ≤ most_opens
