-- A run: what the code is given, and what it shows afterwards.
use Rattle.std.specs.Prelude.{ℕ, ◌+◌, ◌<◌, ◌≤◌, ◌≡◌, List, length, get_or}
use Rattle.format.specs.declared.values.Goal.{Goal}
use Rattle.format.specs.Limits.{most_steps}
use Rattle.format.specs.Terms.{Term}
use Rattle.tables.specs.Tables.{Table}
use Rattle.tables.specs.Standing.{TableStands}
use Rattle.evaluation.specs.Machine as M
use Rattle.arities.specs.Layout.{frames_end, space_end}
use Rattle.arities.specs.Arities.{ArityTable, arities}
use Rattle.machine.specs.declared.state.State.{State}
use Rattle.machine.specs.Shows.{Runs, Shows}

-- a state of the machine: its steps, and where it stands
pub record ShowsState (table job w : List ℕ) (s : State) (σ : M.State) : Type 0 where
  pub steps_are : s.steps ≡ σ.steps
  pub shows : Shows table job w s σ.control

-- what a run is given
pub record Started (bytes : List ℕ) (first : ℕ) (job w : List ℕ) (s : State) (budget : ℕ) : Type 0 where
  pub steps_left : s.steps + budget ≤ most_steps
  pub space : space_end ≤ length w
  pub table_small : length bytes < 65536
  pub job_small : length job < 65536
  pub table : Table
  pub table_stands : TableStands bytes first table
  pub known : ArityTable w (arities table)
  pub place : M.Place
  pub term : Term
  pub goals : List Goal
  pub frames : List M.Frame
  pub runs : Runs bytes job w s place term goals frames

-- a run: what the code shows is the machine's state after at most so many steps
pub record Ran (bytes : List ℕ) (first : ℕ) (job w : List ℕ) (s : State) (budget : ℕ) (v : List ℕ) (r : State) : Type 0 where
  pub same_length : length v ≡ length w
  pub beyond : (i : ℕ) → frames_end ≤ i → get_or v i 0 ≡ get_or w i 0
  pub few_steps : r.steps ≤ s.steps + budget
  pub shows : (T : Table) (π : M.Place) (t : Term) (g : List Goal) (k : List M.Frame) → TableStands bytes first T → ArityTable w (arities T) → Runs bytes job w s π t g k
      → ShowsState bytes job v r (M.run T budget (M.after s.steps (M.running π t g k)))
