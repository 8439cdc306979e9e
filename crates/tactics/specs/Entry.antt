-- An entry that reads a table, then a job: what its outcome is made of, whatever follows the reading.
use Rattle.std.specs.Prelude.{ℕ, ◌≡◌, List}
use Rattle.format.specs.declared.refusals.Cause.{Cause}
use Rattle.format.specs.Refusals.{number}
use Rattle.format.specs.Results.{gives, refused}
use Rattle.tables.specs.Tables.{Table}
use Rattle.tables.specs.ReadTables.{read_table}
use Rattle.files.specs.Jobs.{Job, read_job}
use Rattle.answers.specs.declared.Answer.{Answer}
use Rattle.answers.specs.Answers as said
use Rattle.entries.specs.Outcomes.{Outcome, in_file, table_file, other_file}

-- the table is read first; a refusal of either file ends the call
abbrev pub on_job : (table job : List ℕ) → (next : Table → Job → Outcome (List ℕ)) → Outcome (List ℕ)
on_job table job next = in_file table_file (read_table table) (λ T. in_file other_file (read_job job) (next T))

-- an answer that refuses the table, or, once that was read, the job
pub data FilesRefused (table job : List ℕ) (a : Answer) : Type 0 where
  no_table : (c : Cause) (p : ℕ) → read_table table ≡ refused c p → a ≡ said.refusal (number c) table_file p 0 → FilesRefused table job a
  no_job : (T : Table) (c : Cause) (p : ℕ) → read_table table ≡ gives T → read_job job ≡ refused c p → a ≡ said.refusal (number c) other_file p 0 → FilesRefused table job a
