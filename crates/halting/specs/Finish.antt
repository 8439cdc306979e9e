-- The end of a call: what handing the saved state over is given.
use Rattle.std.specs.Prelude.{ℕ, ◌≤◌, ◌≡◌, List, length, Option, Some}
use Rattle.lent_frames.specs.declared.LentFrame.{LentFrame}
use Rattle.entries.specs.SavedState.{saved_size}
use Rattle.entries.specs.Halting.{halting_work, most_frames}
use Rattle.machine.specs.declared.state.Mode.TheVariants as is
use Rattle.machine.specs.declared.state.State.{State}
use Rattle.saver.specs.Save.{Halts}

pub record HandGiven (last : Option State) (w : List ℕ) (fs : List LentFrame) (state : List ℕ) : Type 0 where
  pub space : halting_work ≤ length w
  pub lent : most_frames ≤ length fs
  pub room : saved_size ≤ length state
  pub halts : (s : State) → last ≡ Some s → s.mode ≡ is.Running → Halts w s
