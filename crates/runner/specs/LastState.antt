-- Both files read and the job run: what is known of its last state.
use Rattle.std.specs.Prelude.{ℕ, ◌≤◌, ◌<◌, ◌≡◌, List, length, Result, Ok, Err}
use Rattle.format.specs.Results.{gives}
use Rattle.tables.specs.Tables.{Table}
use Rattle.tables.specs.ReadTables.{read_table}
use Rattle.tables.specs.Standing.{TableStands}
use Rattle.files.specs.Jobs.{Job, read_job}
use Rattle.files.specs.Counts.{job_term_place}
use Rattle.files.specs.Standing.{JobStands}
use Rattle.evaluation.specs.Machine as M
use Rattle.entries.specs.Run.{begins}
use Rattle.answers.specs.declared.Answer.{Answer}
use Rattle.arities.specs.Arities.{ArityTable, arities}
use Rattle.tactics.specs.Entry.{FilesRefused}
use Rattle.machine.specs.declared.state.State.{State}
use Rattle.runner.specs.declared.last.Reached as told
use Rattle.runner.specs.Run.{ShowsState}

-- the table, whose definitions begin at a place, the job, whose term stands at a place, and the machine's state after so many steps
pub record Reached (bytes file : List ℕ) (budget : ℕ) (w : List ℕ) (s : State) (first term : ℕ) : Type 0 where
  pub table : Table
  pub table_reads : read_table bytes ≡ gives table
  pub table_small : length bytes < 65536
  pub table_stands : TableStands bytes first table
  pub known : ArityTable w (arities table)
  pub job : Job
  pub job_reads : read_job file ≡ gives job
  pub job_stands : JobStands file job
  pub term_is : job_term_place job ≡ term
  pub few_steps : s.steps ≤ budget
  pub shows : ShowsState bytes file w s (M.run table budget (begins job))

-- a file was refused, or the last state was reached
unfoldable pub Reaches : (bytes file : List ℕ) → (budget : ℕ) → List ℕ → Result told.Reached Answer → Type 0
Reaches bytes file budget w (Err a) = FilesRefused bytes file a
Reaches bytes file budget w (Ok r) = Reached bytes file budget w r.state r.first r.term
