-- Frames taken off until a term is to begin or none waits: what is left to unwind comes to the same all along.
-- Assumes nothing.
use Prim.Native.Nat.{ℕ, ◌≤◌, ◌<◌}
use mathlib.Core.Path.{◌≡◌, refl, sym, ap, subst, ◌∙◌}
use mathlib.Core.List.{List, [], ◌∷◌}
use native.Mathlib.Omega.{arith}
use Rattle.evaluation.specs.Outcomes.{Ending, proved, failed, ended}
use Rattle.evaluation.specs.Machine as M
use Rattle.evaluation.specs.Machine.{unwind}
use Rattle.arities.specs.Layout.{frames_end}
use Rattle.machine.specs.declared.state.Mode.TheVariants as is
use Rattle.machine.specs.declared.state.State.{State}
use Rattle.machine.specs.Shows.{FramesAt, Ends, Config, next, done, Holds, Shows}
use Rattle.machine.specs.Popping.{pop, settle, Smaller, Fewer, Waiting, Popped, Unwinding, Unwound}
use Rattle.machine.proofs.KeepLaws.{frame_top}
use Rattle.machine.proofs.WaitingLaws.{limit_not_running, under}
use Rattle.machine.proofs.PopLaws.{settle-pop}

-- what is left to unwind comes to the same
pub record Reached (table job w : List ℕ) (s : State) (κ : M.Control) : Type 0 where
  pub ending : Ending
  pub frames : List M.Frame
  pub ends : Ends table job w s ending frames
  pub same : unwind ending frames ≡ κ

abbrev pub Towards : List ℕ → State → List ℕ → State → Type 0
Towards w₀ s₀ w s = (table job : List ℕ) (e : Ending) (k : List M.Frame) → Ends table job w₀ s₀ e k → Reached table job w s (unwind e k)

module _ (w : List ℕ) (s : State) where
  pub start-here : Towards w s w s
  start-here table job e k h = record { ending = e; frames = k; ends = h; same = refl }

  pub start_fewer : Fewer w s w s
  start_fewer = record { beyond = λ i b. refl; same_length = refl; same_steps = refl }

  one_waits : (table job : List ℕ) (e : Ending) (k : List M.Frame) → Ends table job w s e k → s.top < frames_end → (x : M.Frame) × (i : List M.Frame) × (k ≡ x ∷ i)
  unfolding FramesAt
  one_waits table job e [] h t = absurd (omega (arith, t, (under table job w s e [] h).frames.0))
  one_waits table job e (x ∷ k) h t = (x, k, refl)

  none_waits : (table job : List ℕ) (e : Ending) (k : List M.Frame) → Ends table job w s e k → frames_end ≤ s.top → k ≡ []
  none_waits table job e [] h t = refl
  none_waits table job e (x ∷ k) h t =
      let u = under table job w s e (x ∷ k) h in
      absurd (omega (arith, t, frame_top table job w s.arena x k s.top u.from u.frames))

  pub not_running : (table job : List ℕ) (e : Ending) (k : List M.Frame) → Ends table job w s e k → s.mode ≡ is.Running → ⊥
  unfolding Ends
  not_running table job (proved p g) k h m = let e = h.mode_is in cc
  not_running table job failed k h m = let e = h.mode_is in cc
  not_running table job (ended c) k h m = limit_not_running s.mode c h.limit m

  pub after-done : (table job : List ℕ) (c : Config) → Holds table job w s c → (s.mode ≡ is.Running → ⊥) → Reached table job w s (settle c)
  unfolding Holds settle
  after-done table job (next π t g k) h n = absurd (n h.mode_is)
  after-done table job (done e k) h n = record { ending = e; frames = k; ends = h; same = refl }

  pub after_next : (table job : List ℕ) (c : Config) → Holds table job w s c → s.mode ≡ is.Running → Shows table job w s (settle c)
  unfolding Holds settle Shows
  after_next table job (next π t g k) h m = h
  after_next table job (done e k) h m = absurd (not_running table job e k h m)

module _ (w₀ : List ℕ) (s₀ : State) (w : List ℕ) (s : State) (way : Towards w₀ s₀ w s) (few : Fewer w₀ s₀ w s) where
  pub waits : Unwinding w₀ s₀ → s.top < frames_end → Waiting w s
  waits pre t =
      let r = way pre.table pre.job pre.ending pre.frames pre.ends in
      let x = one_waits w s pre.table pre.job r.ending r.frames r.ends t in
      record {
        few_steps = omega (arith, few.same_steps, pre.few_steps);
        space = omega (arith, few.same_length, pre.space);
        table = pre.table;
        job = pre.job;
        ending = r.ending;
        frame = x.0;
        frames = x.1;
        ends = subst (λ (i : List M.Frame). Ends pre.table pre.job w s r.ending i) x.2 r.ends;
      }

  pub at_end : frames_end ≤ s.top → Unwound w₀ s₀ w s
  unfolding Shows unwind
  at_end t table job e k h =
      let r = way table job e k h in
      let n = none_waits w s table job r.ending r.frames r.ends t in
      subst (λ (κ : M.Control). Shows table job w s κ) (sym (ap (λ (i : List M.Frame). unwind r.ending i) n) ∙ r.same)
      (subst (λ (i : List M.Frame). Ends table job w s r.ending i) n r.ends)

  module _ (t : s.top < frames_end) (v : List ℕ) (r : State) (p : Popped w s v r) (small : Smaller w s v r) where
    pub few_next : Fewer w₀ s₀ v r
    few_next = record {
      beyond = λ i b. small.beyond i b ∙ few.beyond i b;
      same_length = small.same_length ∙ few.same_length;
      same_steps = small.same_steps ∙ few.same_steps;
    }

    -- what the frame taken off leaves comes to the same
    taken_off : (table job : List ℕ) (e : Ending) (k : List M.Frame) → Ends table job w₀ s₀ e k → (c : Config) × (Holds table job v r c) × (settle c ≡ unwind e k)
    taken_off table job e k h =
        let y = way table job e k h in
        let x = one_waits w s table job y.ending y.frames y.ends t in
        let z = subst (λ (i : List M.Frame). Ends table job w s y.ending i) x.2 y.ends in (
          pop y.ending x.0 x.1,
          p table job y.ending x.0 x.1 z,
          settle-pop y.ending x.0 x.1 ∙ sym (ap (λ (i : List M.Frame). unwind y.ending i) x.2) ∙ y.same,
        )

    pub way_next : (r.mode ≡ is.Running → ⊥) → Towards w₀ s₀ v r
    way_next n table job e k h =
        let a = taken_off table job e k h in
        subst (λ (κ : M.Control). Reached table job v r κ) a.2 (after-done v r table job a.0 a.1 n)

    pub found : r.mode ≡ is.Running → Unwound w₀ s₀ v r
    found m table job e k h =
        let a = taken_off table job e k h in
        subst (λ (κ : M.Control). Shows table job v r κ) a.2 (after_next v r table job a.0 a.1 m)
