-- A job searched in a table that stands: what the code is given, and the answer and the output space that entries define.
use Rattle.std.specs.Prelude.{ℕ, suc, ◌≤◌, ◌<◌, ◌≡◌, List, [], length}
use Rattle.format.specs.Limits.{most_height, most_search_steps}
use Rattle.format.specs.Terms.{Hiproof}
use Rattle.tables.specs.Tables.{Table}
use Rattle.tables.specs.Standing.{TableStands}
use Rattle.files.specs.declared.jobs.JobParts.{JobParts}
use Rattle.files.specs.Jobs.{Job}
use Rattle.files.specs.Counts.{job_term_place}
use Rattle.files.specs.Standing.{JobStands}
use Rattle.files.specs.Shapes.{job_parts_of}
use Rattle.answers.specs.declared.Answer.{Answer}
use Rattle.entries.specs.Search.{search_end}
use Rattle.entries.specs.Left.{kept, left_in}
use Rattle.search.specs.Answer.{search}
use Rattle.search.specs.Machine as M
use Rattle.search.specs.Machine.{running, finished, nothing}
use Rattle.outline.specs.Layout.{outline_end}
use Rattle.tactics.specs.Memory.{Same}
use Rattle.search_machine.specs.declared.state.State.{State}
use Rattle.search_machine.specs.Layout.{arena_low, space_end}
use Rattle.search_machine.specs.Shows.{Runs, Shows}
use Rattle.search_machine.specs.Step.{TableIndexed}

-- the first state, with so many levels below the job's term
pub record StartGiven (below : ℕ) (job : List ℕ) (parts : JobParts) (w : List ℕ) : Type 0 where
  pub few_levels : below < most_height
  pub space : space_end ≤ length w
  pub the_job : Job
  pub job_stands : JobStands job the_job
  pub parts_are : job_parts_of the_job ≡ parts

pub record Starts (below : ℕ) (job : List ℕ) (parts : JobParts) (w v : List ℕ) (r : State) : Type 0 where
  pub same_length : length v ≡ length w
  pub index_same : Same outline_end arena_low w v
  pub no_steps : r.steps ≡ 0
  pub runs : (table : List ℕ) (j : Job) → JobStands job j → job_parts_of j ≡ parts → Runs table job v r below j.term j.goals [] []

-- what was found, if anything was, is a hiproof
unfoldable pub FoundHiproof : M.Control → Type 0
FoundHiproof (running b t g k c) = Unit {0}
FoundHiproof (finished p g c) = Hiproof p
FoundHiproof nothing = Unit {0}

-- the end of a search
pub record FinishGiven (job : List ℕ) (term : ℕ) (w : List ℕ) (s : State) : Type 0 where
  pub few_steps : s.steps ≤ most_search_steps
  pub space : space_end ≤ length w
  pub the_job : Job
  pub job_stands : JobStands job the_job
  pub term_is : job_term_place the_job ≡ term
  pub table : List ℕ
  pub control : M.Control
  pub shows : Shows table job w s control
  pub hiproof : FoundHiproof control

-- the answer and the output space are those that entries define
abbrev pub Finishes : (job : List ℕ) → List ℕ → State → List ℕ → Answer → List ℕ → Type 0
Finishes job w s o r v =
    (table : List ℕ) (j : Job) (κ : M.Control) → JobStands job j → Shows table job w s κ → FoundHiproof κ → kept r v ≡ left_in o (search_end j (M.outcome s.steps κ))

-- the whole job
pub record JobGiven (bytes : List ℕ) (first : ℕ) (job : List ℕ) (parts : JobParts) (below budget : ℕ) (w : List ℕ) : Type 0 where
  pub few_levels : below < most_height
  pub budget_fits : budget ≤ most_search_steps
  pub space : space_end ≤ length w
  pub table_small : length bytes < 65536
  pub table : Table
  pub table_stands : TableStands bytes first table
  pub indexed : TableIndexed bytes first w
  pub the_job : Job
  pub job_stands : JobStands job the_job
  pub parts_are : job_parts_of the_job ≡ parts

abbrev pub JobRan : (bytes : List ℕ) → (first : ℕ) → (job : List ℕ) → JobParts → (below budget : ℕ) → List ℕ → Answer → List ℕ → Type 0
JobRan bytes first job parts below budget o r v =
    (T : Table) (j : Job) → TableStands bytes first T → JobStands job j → job_parts_of j ≡ parts → kept r v ≡ left_in o (search_end j (search T (suc below) budget j.term j.goals))
