-- run_halting and resume: what finishing is given, and the five clauses.
-- Assumes nothing.
use Prim.Native.Nat.{ℕ, ◌≤◌}
use mathlib.Core.Path.{◌≡◌}
use mathlib.Core.Bool.{Bool, true, false}
use mathlib.Core.List.{List}
use mathlib.Core.Option.{Option}
use lib.ListN.{length, replicate}
use Rattle.answers.specs.declared.Answer.{Answer}
use Rattle.answers.specs.Answers as said
use Rattle.lent_frames.specs.declared.LentFrame.{LentFrame}
use Rattle.entries.specs.SavedState.{saved_size}
use Rattle.entries.specs.Halting.{halting_outcome, resume_outcome, halting_work, most_frames, Halting, cleared_frames, any_short, save_in, run_halting, resume_run}
use Rattle.halting.specs.declared.halted.Halted.{Halted}
use Rattle.halting.specs.Halted.{KeepsLast, Comes}
use Rattle.halting.proofs.ShortLaws.{short_leaves, enough}
use Rattle.halting.proofs.EndLaws.{finished}

-- the five clauses
abbrev pub Is : Halting → Answer → List ℕ → List LentFrame → (out state : List ℕ) → Type 0
Is z r w fs u x = (r ≡ z.answer) × ((w ≡ z.work) × ((fs ≡ z.frames) × ((u ≡ z.out) × (x ≡ z.state))))

module _ (work : List ℕ) (frames : List LentFrame) (out state : List ℕ) (short : Bool) (told : short ≡ any_short work frames state) where
  -- a space is too short
  pub halting_short : (t j : List ℕ) (b : ℕ) → short ≡ true → (r : Answer) → r ≡ said.refusal 29 0 0 0 → Is (run_halting t j b work frames out state) r work frames out state
  unfolding run_halting
  halting_short t j b h r e = short_leaves work frames out state short told h (halting_outcome t j b) r e

  pub resume_short : (t j saved : List ℕ) (b : ℕ) → short ≡ true → (r : Answer) → r ≡ said.refusal 29 0 0 0 → Is (resume_run t j saved b work frames out state) r work frames out state
  unfolding resume_run
  resume_short t j saved b h r e = short_leaves work frames out state short told h (resume_outcome t j saved b) r e

  module _ (long : short ≡ false) where
    pub spaces : (halting_work ≤ length work) × (most_frames ≤ length frames) × (saved_size ≤ length state)
    spaces = enough work frames out state short told long

    module _ (w : List ℕ) (h : Halted) (u : List ℕ) (len : length w ≡ length work) (fs : List LentFrame) (many : length fs ≡ length frames) (r : Answer) (w₂ : List ℕ) (gs : List LentFrame) (x : List ℕ)
        (value : r ≡ h.answer) (work_after : w₂ ≡ replicate (length w) 0) (frames_after : gs ≡ cleared_frames fs) (state_after : (b : Option (List ℕ)) → KeepsLast w h.state b → x ≡ save_in state b) where
      pub halting_end : (t j : List ℕ) (b : ℕ) → Comes (halting_outcome t j b) out w h u → Is (run_halting t j b work frames out state) r w₂ gs u x
      unfolding run_halting
      halting_end t j b c = finished work frames out state spaces (halting_outcome t j b) w h u c len fs many r w₂ gs x value work_after frames_after state_after

      pub resume_end : (t j saved : List ℕ) (b : ℕ) → Comes (resume_outcome t j saved b) out w h u → Is (resume_run t j saved b work frames out state) r w₂ gs u x
      unfolding resume_run
      resume_end t j saved b c = finished work frames out state spaces (resume_outcome t j saved b) w h u c len fs many r w₂ gs x value work_after frames_after state_after
