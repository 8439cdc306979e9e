-- 29: whether the lent spaces are long enough, and what a call leaves if one is not.
-- Assumes nothing.
use Prim.Native.Nat.{ℕ, ◌≤◌, ◌<◌}
use mathlib.Core.Path.{◌≡◌, refl, sym, ap, subst, ◌∙◌}
use mathlib.Core.Bool.{Bool, true, false, ◌||◌}
use mathlib.Core.List.{List}
use lib.Dec.{T, ltb}
use lib.ListN.{length}
use borrow.Author.Tests.{lt-ltb, le-ltb, ltb-false}
use Rattle.answers.specs.declared.Answer.{Answer}
use Rattle.answers.specs.Answers as said
use Rattle.lent_frames.specs.declared.LentFrame.{LentFrame}
use Rattle.entries.specs.SavedState.{saved_size}
use Rattle.entries.specs.Halting.{HaltingOutcome, halting_work, most_frames, Halting, any_short, halt_in}
use Rattle.entries.proofs.HaltingLaws.{lent_short}

neither : (a b : Bool) → (a || b) ≡ false → (a ≡ false) × (b ≡ false)
neither true b e = let z : ◌≡◌ {A = Bool} true false = e in absurd (subst T z tt)
neither false b e = (refl, e)

none_short : (a b c : ℕ) → halting_work ≤ a → most_frames ≤ b → saved_size ≤ c → (ltb a halting_work || ltb b most_frames || ltb c saved_size) ≡ false
none_short a b c h k l = rw (le-ltb a halting_work h, le-ltb b most_frames k, le-ltb c saved_size l)

module _ (a b c : ℕ) (r : Bool) where
  abbrev Short : Type 0
  Short = r ≡ (ltb a halting_work || ltb b most_frames || ltb c saved_size)

  pub work_short : a < halting_work → r ≡ true → Short
  work_short h e = rw (lt-ltb a halting_work h) e

  pub frames_short : halting_work ≤ a → b < most_frames → r ≡ true → Short
  frames_short h k e = rw (le-ltb a halting_work h, lt-ltb b most_frames k) e

  pub state_short : halting_work ≤ a → most_frames ≤ b → r ≡ ltb c saved_size → Short
  state_short h k e = rw (le-ltb a halting_work h, le-ltb b most_frames k) e

module _ (work : List ℕ) (frames : List LentFrame) (out state : List ℕ) where
  -- what an entry that may halt is defined to leave
  abbrev pub Leaves : HaltingOutcome → Answer → List ℕ → List LentFrame → (u x : List ℕ) → Type 0
  Leaves o r w fs u x =
      (r ≡ (halt_in work frames out state o).answer) × ((w ≡ (halt_in work frames out state o).work)
      × ((fs ≡ (halt_in work frames out state o).frames) × ((u ≡ (halt_in work frames out state o).out) × (x ≡ (halt_in work frames out state o).state))))

  module _ (short : Bool) (told : short ≡ any_short work frames state) where
    pub short_leaves : short ≡ true → (o : HaltingOutcome) (r : Answer) → r ≡ said.refusal 29 0 0 0 → Leaves o r work frames out state
    short_leaves h o r e =
        let q = sym (lent_short work frames out state (λ l. let z : ◌≡◌ {A = Bool} true false = sym h ∙ told ∙ none_short (length work) (length frames) (length state) l.0 l.1 l.2 in absurd (subst T z tt)) o) in
        (e ∙ ap (λ (x : Halting). x.answer) q, (ap (λ (x : Halting). x.work) q, (ap (λ (x : Halting). x.frames) q, (ap (λ (x : Halting). x.out) q, ap (λ (x : Halting). x.state) q))))

    pub enough : short ≡ false → (halting_work ≤ length work) × (most_frames ≤ length frames) × (saved_size ≤ length state)
    enough h =
        let x = neither _ (ltb (length state) saved_size) (sym told ∙ h) in
        let y = neither (ltb (length work) halting_work) (ltb (length frames) most_frames) x.0 in
        (ltb-false (length work) halting_work y.0, ltb-false (length frames) most_frames y.1, ltb-false (length state) saved_size x.1)
