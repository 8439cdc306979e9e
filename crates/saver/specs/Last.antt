-- Document 02, P1: the end of a saved state's contents: the term to begin with all its goals.
use Rattle.std.specs.Prelude.{ℕ, ◌+◌, ◌*◌, ◌≤◌, ◌<◌, List, length}
use Rattle.format.specs.Goals.{goals_at}
use Rattle.entries.specs.SavedState.{saved_size, waiting_term}
use Rattle.entries.specs.Halting.{halting_work}
use Rattle.arities.specs.Layout.{space_end}
use Rattle.machine.specs.declared.state.State.{State}
use Rattle.machine.specs.Shows.{here}

-- the term to begin
unfoldable pub last_bytes : List ℕ → State → List ℕ
last_bytes w s = waiting_term 0 (here s) (goals_at w s.start s.count)

-- what writing it is given
pub record LastGiven (w : List ℕ) (s : State) (to : ℕ) : Type 0 where
  pub space : halting_work ≤ length w
  pub file_known : s.file ≤ 1
  pub place_small : s.at < 65536
  pub few : s.count ≤ 256
  pub goals_low : s.start + s.count * 2 ≤ space_end
  pub above : space_end ≤ to
  pub room : to + 6 + s.count * 2 ≤ space_end + saved_size
