-- Document 02, P1: the contents of the saved state of a run that halts, written behind what a run uses of the work space.
use Rattle.std.specs.Prelude.{ℕ, ◌+◌, ◌≤◌, ◌<◌, ◌≡◌, List, [], ◌∷◌, length, Option, Some, None}
use Rattle.format.specs.declared.values.Goal.{Goal}
use Rattle.format.specs.Limits.{most_steps}
use Rattle.format.specs.Terms.{Term}
use Rattle.evaluation.specs.Machine as M
use Rattle.evaluation.specs.Halts.{last_place, Shared, own_count}
use Rattle.lent_frames.specs.declared.LentFrame.{LentFrame}
use Rattle.entries.specs.SavedState.{saved_size, saved_contents}
use Rattle.entries.specs.Halting.{halting_work, most_frames}
use Rattle.arities.specs.Layout.{space_end}
use Rattle.machine.specs.declared.state.Mode.TheVariants as is
use Rattle.machine.specs.declared.state.State.{State}
use Rattle.machine.specs.Shows.{Runs}
use Rattle.saver.specs.Put.{Writes}

-- places are in the table (file 0) or in the job (file 1)
unfoldable pub InFiles : List M.Frame → Type 0
InFiles [] = Unit {0}
InFiles (f ∷ k) = ((last_place f).file ≤ 1) × InFiles k

-- a run that halts: a term is to begin, the goals of all terms are counted in 16 bits, and the saved state has room for all that is held
pub record Halts (w : List ℕ) (s : State) : Type 0 where
  pub table : List ℕ
  pub job : List ℕ
  pub table_small : length table < 65536
  pub job_small : length job < 65536
  pub place : M.Place
  pub term : Term
  pub goals : List Goal
  pub frames : List M.Frame
  pub runs : Runs table job w s place term goals frames
  pub few_steps : s.steps ≤ most_steps
  pub file_known : place.file ≤ 1
  pub in_files : InFiles frames
  pub shared : Shared goals frames
  pub goals_counted : length goals + own_count (length goals) frames ≤ 65535
  pub fits : length (saved_contents s.steps place goals frames) ≤ saved_size

-- what saving is given and does
pub record SaveGiven (w : List ℕ) (fs : List LentFrame) (s : State) : Type 0 where
  pub space : halting_work ≤ length w
  pub lent : most_frames ≤ length fs
  pub halts : s.mode ≡ is.Running → Halts w s

-- the contents written, from where the part that a run uses ends up to a place
abbrev pub SavesUpTo : (w : List ℕ) → State → (end : ℕ) → (v : List ℕ) → Type 0
SavesUpTo w s end v = (table job : List ℕ) (π : M.Place) (t : Term) (g : List Goal) (k : List M.Frame) → Runs table job w s π t g k → Writes w space_end (saved_contents s.steps π g k) end v

-- of a run that halts it is told where the contents end
pub record Saves (w : List ℕ) (s : State) (r : Option ℕ) (v : List ℕ) : Type 0 where
  pub ended : (s.mode ≡ is.Running → ⊥) → (r ≡ None) × (v ≡ w)
  pub halted : s.mode ≡ is.Running → (end : ℕ) × (r ≡ Some end) × SavesUpTo w s end v
