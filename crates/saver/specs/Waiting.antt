-- Document 02, P1: the bytes of waiting terms, "each with its goals still to come, innermost last".
use Rattle.std.specs.Prelude.{ℕ, ◌+◌, ◌*◌, ◌/◌, ◌%◌, ◌≤◌, ◌<◌, List, [], ◌∷◌, ◌++◌, length, take}
use Rattle.format.specs.Goals.{goals_at}
use Rattle.lent_frames.specs.declared.LentFrame.{LentFrame}
use Rattle.entries.specs.SavedState.{waiting_term}
use Rattle.arities.specs.Layout.{space_end}

-- the bytes of one waiting term, whose goals lie in work space
unfoldable pub frame_bytes : List ℕ → LentFrame → List ℕ
frame_bytes w f = waiting_term f.stage (record { file = f.term / 65536; at = f.term % 65536 }) (goals_at w f.goals f.count)

-- those of several: innermost first in the list, outermost first in bytes
unfoldable pub frames_bytes : List ℕ → List LentFrame → List ℕ
frames_bytes w [] = []
frames_bytes w (f ∷ fs) = frames_bytes w fs ++ frame_bytes w f

-- what a frame names lies in the part that a run uses, and its stage and its file are bytes
pub record Low (f : LentFrame) : Type 0 where
  pub goals_low : f.goals + f.count * 2 ≤ space_end
  pub stage_small : f.stage < 256
  pub term_small : f.term < 131072

unfoldable pub AllLow : List LentFrame → Type 0
AllLow [] = Unit {0}
AllLow (f ∷ fs) = Low f × AllLow fs

-- what writing one waiting term is given
pub record FrameGiven (w : List ℕ) (to : ℕ) (f : LentFrame) : Type 0 where
  pub low : Low f
  pub above : space_end ≤ to
  pub room : to + 6 + f.count * 2 ≤ length w

-- what writing the first so many lent frames is given
pub record WaitingGiven (w : List ℕ) (fs : List LentFrame) (n to : ℕ) : Type 0 where
  pub lent : n ≤ length fs
  pub above : space_end ≤ to
  pub low : AllLow (take n fs)
  pub room : to + length (frames_bytes w (take n fs)) ≤ length w
