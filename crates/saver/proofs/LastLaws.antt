-- The end of a saved state's contents: the term to begin is written as a waiting term is.
-- Assumes nothing.
use Prim.Native.Nat.{ℕ, ◌+◌, ◌*◌, ◌<◌}
use mathlib.Core.Path.{◌≡◌, ap, subst}
use mathlib.Core.List.{List}
use Rattle.format.specs.Goals.{goals_at}
use Rattle.evaluation.specs.Machine as M
use Rattle.lent_frames.specs.declared.LentFrame.{LentFrame}
use Rattle.entries.specs.SavedState.{waiting_term}
use Rattle.machine.specs.declared.state.State.{State}
use Rattle.saver.specs.Put.{Writes}
use Rattle.saver.specs.Waiting.{frame_bytes}
use Rattle.saver.specs.Last.{last_bytes, LastGiven}
use Rattle.saver.proofs.SavedLaws.{file_part, at_part}

-- the term to begin as a lent frame
abbrev pub last_frame : State → LentFrame
last_frame s = record { term = s.file * 65536 + s.at; goals = s.start; count = s.count; stage = 0 }

last_is : (w : List ℕ) (s : State) → s.at < 65536 → frame_bytes w (last_frame s) ≡ last_bytes w s
unfolding frame_bytes last_bytes
last_is w s small =
    ap (λ (π : M.Place). waiting_term 0 π (goals_at w s.start s.count)) (λ i. record { file = file_part s.file s.at small i; at = at_part s.file s.at small i })

pub last_written : (w : List ℕ) (s : State) (to : ℕ) → LastGiven w s to → (end : ℕ) (v : List ℕ) → Writes w to (frame_bytes w (last_frame s)) end v → Writes w to (last_bytes w s) end v
last_written w s to h end v a = subst (λ (b : List ℕ). Writes w to b end v) (last_is w s h.place_small) a
