-- The proof file of a result: the job's goal list, the hiproof of so many bytes that stands at a place of the work space, and the goals that remain.
use Rattle.std.specs.Prelude.{ℕ, ◌+◌, ◌*◌, ◌≤◌, ◌≡◌, List, ◌++◌, length, drop}
use Rattle.format.specs.declared.values.Goal.{Goal}
use Rattle.format.specs.Goals.{goals_at}
use Rattle.format.specs.Terms.{Term, size}
use Rattle.format.specs.Standing.{Stands}
use Rattle.files.specs.Proofs.{proof_bytes}
use Rattle.files.specs.Jobs.{Job}
use Rattle.files.specs.Counts.{job_term_place}
use Rattle.files.specs.Standing.{JobStands}

-- how long the file is
abbrev pub file_size : (term bytes count : ℕ) → ℕ
file_size term bytes count = term + bytes + 3 + count * 2

-- what is copied lies inside, and the output space is long enough
pub record FileGiven (job : List ℕ) (term : ℕ) (w : List ℕ) (from bytes start count : ℕ) (o : List ℕ) : Type 0 where
  pub list_inside : term ≤ length job
  pub term_inside : from + bytes ≤ length w
  pub few : count ≤ 256
  pub goals_inside : start + count * 2 ≤ length w
  pub fits : file_size term bytes count ≤ length o

-- the file, whatever job and result stand there, and the rest of the output space as it was
abbrev pub FileWritten : (job : List ℕ) → (term : ℕ) → List ℕ → (from bytes start count : ℕ) → List ℕ → List ℕ → Type 0
FileWritten job term w from bytes start count o v =
    (j : Job) (p : Term) (g : List Goal) → JobStands job j → job_term_place j ≡ term → Stands w from p → size p ≡ bytes → goals_at w start count ≡ g
    → v ≡ proof_bytes (record { goals = j.goals; term = p; remaining = g }) ++ drop (file_size term bytes count) o
