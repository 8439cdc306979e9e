-- Waiting terms, goals and output are the same after a write elsewhere: by induction over the waiting terms, innermost first.
-- Assumes nothing.
use Prim.Native.Nat.{ℕ, ◌+◌, ◌≤◌, ◌<◌}
use mathlib.Core.Path.{◌≡◌, refl, sym, subst, ◌∙◌}
use mathlib.Core.List.{List, [], ◌∷◌}
use native.Mathlib.Omega.{arith}
use lib.ListN.{length, get_or}
use Rattle.words.specs.Word.{word}
use Rattle.format.specs.declared.values.Goal.{Goal}
use Rattle.format.specs.Limits.{most_steps}
use Rattle.format.specs.Terms.{Term}
use Rattle.evaluation.specs.Machine as M
use Rattle.evaluation.specs.Machine.{labelled, sequence_left, sequence_right, tensor_left, tensor_right, alternation_left}
use Rattle.arities.specs.Layout.{output_end, frames_end, space_end}
use Rattle.tactics.specs.Memory.{Same, Only}
use Rattle.tactics.specs.Numbers.{triple}
use Rattle.tactics.proofs.MemoryLaws.{same_word, same_goals, same_term}
use Rattle.tactics.proofs.NumberLaws.{same_triple}
use Rattle.frames.specs.declared.Frame.{Frame}
use Rattle.frames.specs.Frames.{frame_at}
use Rattle.machine.specs.declared.state.State.{State}
use Rattle.machine.specs.Shows.{GoalsIs, FrameIs, Began, FramesAt, Runs}

-- what a write leaves: the output before o, the goals before arena, the frames from top to their end
pub record Kept (o arena top : ℕ) (w v : List ℕ) : Type 0 where
  pub same_length : length v ≡ length w
  pub output : (i : ℕ) → i < o → get_or v i 0 ≡ get_or w i 0
  pub goals : (i : ℕ) → output_end ≤ i → i < arena → get_or v i 0 ≡ get_or w i 0
  pub frames : (i : ℕ) → top ≤ i → i < frames_end → get_or v i 0 ≡ get_or w i 0

pub kept_less : (o arena top o' arena' top' : ℕ) (w v : List ℕ) → Kept o arena top w v → o' ≤ o → arena' ≤ arena → top ≤ top' → Kept o' arena' top' w v
kept_less o arena top o' arena' top' w v k l a h = record {
  same_length = k.same_length;
  output = λ i p. k.output i (omega arith);
  goals = λ i p q. k.goals i p (omega arith);
  frames = λ i p q. k.frames i (omega arith) q;
}

-- nothing written
pub kept_all : (o arena top : ℕ) (w : List ℕ) → Kept o arena top w w
kept_all o arena top w = record { same_length = refl; output = λ i p. refl; goals = λ i p q. refl; frames = λ i p q. refl }

-- a write to the output
pub kept_output : (a b o arena top : ℕ) (w v : List ℕ) → Only a b w v → o ≤ a → b ≤ output_end → output_end ≤ top → Kept o arena top w v
kept_output a b o arena top w v p h l t = record {
  same_length = p.same_length;
  output = λ i q. p.kept.below i (omega arith);
  goals = λ i q r. p.kept.above i (omega arith);
  frames = λ i q r. p.kept.above i (omega arith);
}

-- a write behind the goals, before the frames
pub kept-behind : (a b o arena top : ℕ) (w v : List ℕ) → Only a b w v → o ≤ a → arena ≤ a → b ≤ top → Kept o arena top w v
kept-behind a b o arena top w v p h l t = record {
  same_length = p.same_length;
  output = λ i q. p.kept.below i (omega arith);
  goals = λ i q r. p.kept.below i (omega arith);
  frames = λ i q r. p.kept.above i (omega arith);
}

-- the frames end where their region ends
pub frames_top : (table job w : List ℕ) (arena : ℕ) (k : List M.Frame) (top o : ℕ) → FramesAt table job w arena k top o → top ≤ frames_end
unfolding FramesAt
frames_top table job w arena [] top o h = omega (arith, h.0)
frames_top table job w arena (x ∷ k) top o h = omega (arith, frames_top table job w (frame_at w top).arena k (top + 19) _ h.1)

module _ (w v : List ℕ) where
  pub frame_kept : (at : ℕ) → Same at (at + 19) w v → frame_at v at ≡ frame_at w at
  unfolding frame_at
  frame_kept at s =
      let e₁ : word v at ≡ word w at = same_word w v at (at + 19) at s (omega arith) (omega arith) in
      let e₂ : word v (at + 2) ≡ word w (at + 2) = same_word w v at (at + 19) (at + 2) s (omega arith) (omega arith) in
      let e₃ : word v (at + 4) ≡ word w (at + 4) = same_word w v at (at + 19) (at + 4) s (omega arith) (omega arith) in
      let e₄ : word v (at + 6) ≡ word w (at + 6) = same_word w v at (at + 19) (at + 6) s (omega arith) (omega arith) in
      let e₅ : triple v (at + 8) ≡ triple w (at + 8) = same_triple w v at (at + 19) (at + 8) s (omega arith) (omega arith) in
      let e₆ : triple v (at + 11) ≡ triple w (at + 11) = same_triple w v at (at + 19) (at + 11) s (omega arith) (omega arith) in
      let e₇ : word v (at + 14) ≡ word w (at + 14) = same_word w v at (at + 19) (at + 14) s (omega arith) (omega arith) in
      let e₈ : triple v (at + 16) ≡ triple w (at + 16) = same_triple w v at (at + 19) (at + 16) s (omega arith) (omega arith) in
      λ i. record { kind = e₁ i; file = e₂ i; at = e₃ i; count = e₄ i; start = e₅ i; mark = e₆ i; held = e₇ i; arena = e₈ i }

  pub goals_kept_lem : (arena arena' : ℕ) → arena ≤ arena' → (start count : ℕ) (g : List Goal) → ((i : ℕ) → output_end ≤ i → i < arena → get_or v i 0 ≡ get_or w i 0)
      → GoalsIs w arena start count g → GoalsIs v arena' start count g
  goals_kept_lem arena arena' more start count g s h = record {
    low = h.low;
    high = omega (arith, more, h.high);
    few = h.few;
    are = same_goals w v count start (λ i l r. s i (omega (arith, h.low)) (omega (arith, h.high))) ∙ h.are;
  }

  -- the goals of an alternation lie before the end of the goals that its frame keeps
  frame_is_kept : (arena arena' : ℕ) → arena ≤ arena' → (table job : List ℕ) (x : M.Frame) (f : Frame) (o top : ℕ) → f.arena ≤ arena → Kept o arena top w v
      → FrameIs table job w arena f o x → FrameIs table job v arena' f o x
  unfolding FrameIs
  frame_is_kept arena arena' more table job (labelled π l) f o top b k h = (
    h.0,
    h.1,
    k.output f.mark (omega (arith, h.1)) ∙ h.2,
    same_word w v 0 o (f.mark + 3) (λ i l r. k.output i r) (omega arith) (omega (arith, h.1)) ∙ h.3,
    h.4,
  )
  frame_is_kept arena arena' more table job (sequence_left π u) f o top b k h = (h.0, h.1, k.output f.mark (omega (arith, h.1)) ∙ h.2, h.3, h.4)
  frame_is_kept arena arena' more table job (sequence_right π s) f o top b k h = (
    h.0,
    h.1,
    k.output f.mark (omega (arith, h.1)) ∙ h.2,
    same_term w v k.same_length s 0 o (f.mark + 3) (λ i l r. k.output i r) (omega arith) (omega (arith, h.1)) h.3,
    h.4,
  )
  frame_is_kept arena arena' more table job (tensor_left π u g) f o top b k h =
      (h.0, h.1, k.output f.mark (omega (arith, h.1)) ∙ h.2, h.3, goals_kept_lem arena arena' more f.start f.count g k.goals h.4, h.5)
  frame_is_kept arena arena' more table job (tensor_right π s g) f o top b k h = (
    h.0,
    h.1,
    k.output f.mark (omega (arith, h.1)) ∙ h.2,
    same_term w v k.same_length s 0 o (f.mark + 3) (λ i l r. k.output i r) (omega arith) (omega (arith, h.1)) h.3,
    goals_kept_lem arena arena' more f.start f.count g k.goals h.4,
    h.5,
    h.6,
  )
  frame_is_kept arena arena' more table job (alternation_left π u g) f o top b k h =
      (h.0, h.1, h.2, goals_kept_lem f.arena f.arena (omega arith) f.start f.count g (λ i l r. k.goals i l (omega (arith, b, r))) h.3, h.4)

mark_below : (table job w : List ℕ) (arena : ℕ) (x : M.Frame) (f : Frame) (o : ℕ) → FrameIs table job w arena f o x → f.mark ≤ o
unfolding FrameIs
mark_below table job w arena (labelled π l) f o h = omega (arith, h.1)
mark_below table job w arena (sequence_left π u) f o h = omega (arith, h.1)
mark_below table job w arena (sequence_right π s) f o h = omega (arith, h.1)
mark_below table job w arena (tensor_left π u g) f o h = omega (arith, h.1)
mark_below table job w arena (tensor_right π s g) f o h = omega (arith, h.1)
mark_below table job w arena (alternation_left π u g) f o h = omega (arith, h.1)

-- goals may be added behind; of the waiting terms outside the first, the goals end where the first one's frame says
pub frames_kept : (w v : List ℕ) (arena arena' : ℕ) → arena ≤ arena' → (table job : List ℕ) (k : List M.Frame) (top o : ℕ) → Kept o arena top w v → FramesAt table job w arena k top o
    → FramesAt table job v arena' k top o
unfolding FramesAt
frames_kept w v arena arena' more table job [] top o p h = h
frames_kept w v arena arena' more table job (x ∷ k) top o p h =
    let below : top + 19 ≤ frames_end = frames_top table job w (frame_at w top).arena k (top + 19) _ h.1 in
    let before : (frame_at w top).arena ≤ arena = h.2.goals_before in
    let e : frame_at v top ≡ frame_at w top = frame_kept w v top (λ i l r. p.frames i l (omega arith)) in
    let one : FrameIs table job v arena' (frame_at w top) o x = frame_is_kept w v arena arena' more table job x (frame_at w top) o top before p h.0 in
    let m : (frame_at w top).mark ≤ o = mark_below table job w arena x (frame_at w top) o h.0 in
    let rest : FramesAt table job v (frame_at w top).arena k (top + 19) (frame_at w top).mark =
    frames_kept w v (frame_at w top).arena (frame_at w top).arena (omega arith) table job k (top + 19) (frame_at w top).mark
    (kept_less o arena top _ _ _ w v p m before (omega arith)) h.1 in
    let began : Began (frame_at w top) arena' k = record {
      held_is = h.2.held_is;
      held_fits = h.2.held_fits;
      goals_fit = h.2.goals_fit;
      goals_low = h.2.goals_low;
      goals_before = omega (arith, more, before);
    } in (
      subst (λ (y : Frame). FrameIs table job v arena' y o x) (sym e) one,
      subst (λ (y : Frame). FramesAt table job v y.arena k (top + 19) y.mark) (sym e) rest,
      subst (λ (y : Frame). Began y arena' k) (sym e) began,
    )

-- more goals, nothing written
pub frames_weaken : (table job w : List ℕ) (arena arena' : ℕ) → arena ≤ arena' → (k : List M.Frame) (top o : ℕ) → FramesAt table job w arena k top o → FramesAt table job w arena' k top o
frames_weaken table job w arena arena' more k top o h = frames_kept w w arena arena' more table job k top o (kept_all o arena top w) h

-- what is known of the frames
module _ (table job w : List ℕ) (arena : ℕ) where
  pub frame_top : (x : M.Frame) (k : List M.Frame) (top o : ℕ) → FramesAt table job w arena (x ∷ k) top o → top + 19 ≤ frames_end
  unfolding FramesAt
  frame_top x k top o h = frames_top table job w (frame_at w top).arena k (top + 19) _ h.1

  pub frame_mark : (x : M.Frame) (k : List M.Frame) (top o : ℕ) → FramesAt table job w arena (x ∷ k) top o → (frame_at w top).mark ≤ o
  unfolding FramesAt
  frame_mark x k top o h = mark_below table job w arena x (frame_at w top) o h.0

-- a term that is to begin still is after a write behind all that a run uses
pub runs_kept : (table job w v : List ℕ) (s : State) (π : M.Place) (t : Term) (g : List Goal) (k : List M.Frame) → length v ≡ length w → Same 0 space_end w v → s.steps ≤ most_steps
    → Runs table job w s π t g k → Runs table job v s π t g k
runs_kept table job w v s π t g k len same few r =
    let output : s.out ≤ space_end = omega (arith, few, r.sizes.output_fits) in
    let arena : s.arena ≤ space_end = omega (arith, r.sizes.held_fits, r.sizes.goals_fit) in
    let kept : Kept s.out s.arena s.top w v =
    record { same_length = len; output = λ i l. same i (omega arith) (omega arith); goals = λ i l u. same i (omega arith) (omega arith); frames = λ i l u. same i (omega arith) (omega arith) } in
    record {
      mode_is = r.mode_is;
      place_is = r.place_is;
      stands = r.stands;
      goals = goals_kept_lem w v s.arena s.arena (omega arith) s.start s.count g kept.goals r.goals;
      frames = frames_kept w v s.arena s.arena (omega arith) table job k s.top s.out kept r.frames;
      held_is = r.held_is;
      sizes = r.sizes;
    }
