-- Document 02, P1: the head of a saved state: "its step count, the fields finished so far", and the number of terms.
use Rattle.std.specs.Prelude.{ℕ, ◌+◌, ◌≤◌, List, ◌++◌, length}
use Rattle.format.specs.declared.values.Goal.{Goal}
use Rattle.format.specs.Encoding.{Bytes, word_bytes}
use Rattle.format.specs.Limits.{most_steps}
use Rattle.format.specs.Terms.{Term}
use Rattle.evaluation.specs.Machine as M
use Rattle.entries.specs.SavedState.{finished_fields}
use Rattle.entries.specs.Halting.{halting_work}
use Rattle.arities.specs.Layout.{space_end}
use Rattle.machine.specs.declared.state.State.{State}
use Rattle.machine.specs.Shows.{Runs}
use Rattle.saver.specs.Put.{Writes}

-- the terms are those that wait and the term to begin
unfoldable pub head_bytes : (steps : ℕ) → List M.Frame → (waiting : ℕ) → List ℕ
head_bytes steps k n = word_bytes steps ++ word_bytes (length (finished_fields k)) ++ finished_fields k ++ word_bytes (n + 1)

-- what writing the head is given and does
pub record HeadGiven (w : List ℕ) (s : State) (waiting : ℕ) : Type 0 where
  pub space : halting_work ≤ length w
  pub few_steps : s.steps ≤ most_steps
  pub few_waiting : waiting ≤ most_steps
  pub table : List ℕ
  pub job : List ℕ
  pub place : M.Place
  pub term : Term
  pub goals : List Goal
  pub frames : List M.Frame
  pub runs : Runs table job w s place term goals frames

-- It also tells that the work space held bytes, which the laws of the terms written afterwards need.
pub record Heads (w : List ℕ) (s : State) (waiting end : ℕ) (v : List ℕ) : Type 0 where
  pub bytes : Bytes w
  pub writes : (table job : List ℕ) (π : M.Place) (t : Term) (g : List Goal) (k : List M.Frame) → Runs table job w s π t g k → Writes w space_end (head_bytes s.steps k waiting) end v
