-- Going on: what is given of the run that was run again.
use Rattle.std.specs.Prelude.{ℕ, ◌≤◌, List, length}
use Rattle.lent_frames.specs.declared.LentFrame.{LentFrame}
use Rattle.entries.specs.Halting.{halting_work, most_frames}
use Rattle.runner.specs.declared.last.Reached as told
use Rattle.halting.specs.Again.{RanAgain}

pub record GoOnGiven (table job saved : List ℕ) (budget : ℕ) (w : List ℕ) (fs : List LentFrame) (r : told.Reached) : Type 0 where
  pub space : halting_work ≤ length w
  pub lent : most_frames ≤ length fs
  pub again : RanAgain table job saved budget w r
