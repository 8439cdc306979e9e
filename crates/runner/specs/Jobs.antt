-- A job run in a table that stands: what the code is given, its last state, and the answer and the output space that entries define.
use Rattle.std.specs.Prelude.{ℕ, ◌≤◌, ◌<◌, ◌≡◌, List, [], length, get_or}
use Rattle.format.specs.Limits.{most_steps}
use Rattle.tables.specs.Tables.{Table, UniqueDefinitions}
use Rattle.tables.specs.Standing.{TableStands}
use Rattle.files.specs.declared.jobs.JobParts.{JobParts}
use Rattle.files.specs.Jobs.{Job}
use Rattle.files.specs.Counts.{job_term_place}
use Rattle.files.specs.Standing.{JobStands}
use Rattle.files.specs.Shapes.{job_parts_of}
use Rattle.evaluation.specs.Machine as M
use Rattle.answers.specs.declared.Answer.{Answer}
use Rattle.entries.specs.Run.{begins, run_end}
use Rattle.entries.specs.Left.{kept, left_in}
use Rattle.arities.specs.Layout.{frames_end, space_end}
use Rattle.arities.specs.Arities.{ArityTable, arities}
use Rattle.machine.specs.declared.state.State.{State}
use Rattle.machine.specs.Shows.{Runs, Shows}
use Rattle.runner.specs.Run.{ShowsState}

-- the first state
pub record StartGiven (job : List ℕ) (parts : JobParts) (w : List ℕ) : Type 0 where
  pub space : space_end ≤ length w
  pub the_job : Job
  pub job_stands : JobStands job the_job
  pub parts_are : job_parts_of the_job ≡ parts

pub record Starts (job : List ℕ) (parts : JobParts) (w v : List ℕ) (r : State) : Type 0 where
  pub same_length : length v ≡ length w
  pub beyond : (i : ℕ) → frames_end ≤ i → get_or v i 0 ≡ get_or w i 0
  pub no_steps : r.steps ≡ 0
  pub runs : (table : List ℕ) (j : Job) → JobStands job j → job_parts_of j ≡ parts → Runs table job v r (record { file = 1; at = job_term_place j }) j.term j.goals []

-- the end of a run
pub record FinishGiven (job : List ℕ) (term : ℕ) (w : List ℕ) (s : State) : Type 0 where
  pub few_steps : s.steps ≤ most_steps
  pub space : space_end ≤ length w
  pub the_job : Job
  pub job_stands : JobStands job the_job
  pub term_is : job_term_place the_job ≡ term
  pub table : List ℕ
  pub control : M.Control
  pub shows : Shows table job w s control

-- the answer and the output space are those that entries define
abbrev pub Finishes : (job : List ℕ) → List ℕ → State → List ℕ → Answer → List ℕ → Type 0
Finishes job w s o r v = (table : List ℕ) (j : Job) (κ : M.Control) → JobStands job j → Shows table job w s κ → kept r v ≡ left_in o (run_end j s.steps κ)

-- the whole job
pub record JobGiven (bytes : List ℕ) (first definitions : ℕ) (job : List ℕ) (parts : JobParts) (budget : ℕ) (w : List ℕ) : Type 0 where
  pub budget_fits : budget ≤ most_steps
  pub space : space_end ≤ length w
  pub table_small : length bytes < 65536
  pub table : Table
  pub table_stands : TableStands bytes first table
  pub unique : UniqueDefinitions table
  pub count_is : definitions ≡ length table.definitions
  pub the_job : Job
  pub job_stands : JobStands job the_job
  pub parts_are : job_parts_of the_job ≡ parts

-- its last state: where the machine stands after so many steps, with the arities of the table still known
pub record JobRan (bytes : List ℕ) (first definitions : ℕ) (job : List ℕ) (parts : JobParts) (budget : ℕ) (w : List ℕ) (r : State) : Type 0 where
  pub few_steps : r.steps ≤ budget
  pub known : (T : Table) → TableStands bytes first T → UniqueDefinitions T → definitions ≡ length T.definitions → ArityTable w (arities T)
  pub shows : (T : Table) (j : Job) → TableStands bytes first T → UniqueDefinitions T → definitions ≡ length T.definitions → JobStands job j → job_parts_of j ≡ parts
      → ShowsState bytes job w r (M.run T budget (begins j))
