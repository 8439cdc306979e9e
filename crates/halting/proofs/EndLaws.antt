-- The end of an entry that may halt: what finishing is given, and what the entry leaves.
-- Assumes nothing.
use Prim.Native.Nat.{ℕ, ◌≤◌}
use mathlib.Core.Path.{◌≡◌, sym, ap, ◌∙◌}
use mathlib.Core.List.{List}
use mathlib.Core.Option.{Option}
use native.Mathlib.Omega.{arith}
use lib.ListN.{length, replicate}
use Rattle.answers.specs.declared.Answer.{Answer}
use Rattle.lent_frames.specs.declared.LentFrame.{LentFrame}
use Rattle.lent_frames.specs.Frames.{no_frame}
use Rattle.entries.specs.LentSpace.{Written}
use Rattle.entries.specs.SavedState.{saved_size}
use Rattle.entries.specs.Halting.{HaltingOutcome, halting_work, most_frames, Halting, cleared_frames, save_in}
use Rattle.entries.proofs.LeftLaws.{any_work}
use Rattle.entries.proofs.HaltingLaws.{lent_enough}
use Rattle.halting.specs.declared.halted.Halted.{Halted}
use Rattle.halting.specs.Halted.{KeepsLast, Comes}
use Rattle.halting.specs.Finish.{HandGiven}
use Rattle.halting.proofs.FinishLaws.{kept_some}
use Rattle.halting.proofs.ShortLaws.{Leaves}

-- from an outcome to the end; the spaces are long enough
module _ (work : List ℕ) (frames : List LentFrame) (out state : List ℕ) (long : (halting_work ≤ length work) × (most_frames ≤ length frames) × (saved_size ≤ length state)) where
  module _ (o : HaltingOutcome) (w : List ℕ) (h : Halted) (u : List ℕ) (c : Comes o out w h u) (len : length w ≡ length work) (fs : List LentFrame) (many : length fs ≡ length frames) where
    pub hand_given : HandGiven h.state w fs state
    hand_given = record { space = omega (arith, long.0, len); lent = omega (arith, long.1, many); room = long.2; halts = λ s e m. ((kept_some w h.state s e o.saved c.keeps).halted m).halts }

    pub finished : (r : Answer) (w₂ : List ℕ) (gs : List LentFrame) (x : List ℕ) → r ≡ h.answer → w₂ ≡ replicate (length w) 0 → gs ≡ cleared_frames fs → ((b : Option (List ℕ)) → KeepsLast w h.state b → x ≡ save_in state b)
        → Leaves work frames out state o r w₂ gs u x
    finished r w₂ gs x a d g f =
        let q = sym (lent_enough work frames out state long o) in
        let z = sym (any_work work out o.outcome) in (
          a ∙ ap (λ (k : Written). k.answer) c.answer_is ∙ ap (λ (k : Written). k.answer) z ∙ ap (λ (k : Halting). k.answer) q,
          (
            d ∙ ap (λ (n : ℕ). replicate n 0) len ∙ ap (λ (k : Written). k.work) z ∙ ap (λ (k : Halting). k.work) q,
            (
              g ∙ ap (λ (n : ℕ). replicate n no_frame) many ∙ ap (λ (k : Halting). k.frames) q,
              (
                ap (λ (k : Written). k.out) c.answer_is ∙ ap (λ (k : Written). k.out) z ∙ ap (λ (k : Halting). k.out) q,
                f o.saved c.keeps ∙ ap (λ (k : Halting). k.state) q,
              ),
            ),
          ),
        )
