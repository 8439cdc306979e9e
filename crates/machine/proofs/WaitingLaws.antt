-- What is known of a term that ended while others wait: which ending it is by the state's mode, which term waits by the kind of its frame, and the
-- numbers of the state by the steps taken. Each by cases.
-- Assumes nothing.
use Prim.Native.Nat.{ℕ, ◌+◌, ◌*◌, ◌≤◌}
use mathlib.Core.Path.{◌≡◌, sym, subst}
use mathlib.Core.Bool.{cond}
use mathlib.Core.List.{List, ◌∷◌}
use native.Mathlib.Omega.{arith}
use lib.Dec.{eqb}
use lib.ListN.{length}
use Rattle.format.specs.declared.values.Goal.{Goal}
use Rattle.format.specs.declared.values.Label.{Label}
use Rattle.format.specs.Limits.{most_steps, most_held}
use Rattle.format.specs.declared.refusals.Cause.{Cause}
use Rattle.format.specs.Terms.{Term}
use Rattle.evaluation.specs.Outcomes.{Ending, proved, failed, ended}
use Rattle.evaluation.specs.Machine as M
use Rattle.evaluation.specs.Machine.{labelled, sequence_left, sequence_right, tensor_left, tensor_right, alternation_left}
use Rattle.arities.specs.Layout.{space_end, frames_end}
use Rattle.frames.specs.declared.Frame.{Frame}
use Rattle.frames.specs.Frames.{frame_at}
use Rattle.machine.specs.declared.state.Mode.{Mode}
use Rattle.machine.specs.declared.state.Mode.TheVariants as is
use Rattle.machine.specs.declared.state.State.{State}
use Rattle.machine.specs.Shows.{FrameIs, FramesAt, Began, Sizes, LimitMode, overflows, exceeds, Proved, Lost, Limited, Ends}
use Rattle.machine.specs.Popping.{Fits, Waiting, Loaded, Unwinding}
use Rattle.machine.proofs.KeepLaws.{frames_top, frame_top, frame_mark}

-- the kind of the frame of a waiting term
unfoldable pub kind_of : M.Frame → ℕ
kind_of (labelled π l) = 1
kind_of (sequence_left π u) = 2
kind_of (sequence_right π s) = 3
kind_of (tensor_left π u g) = 4
kind_of (tensor_right π s g) = 5
kind_of (alternation_left π u g) = 6

pub kind_is : (table job w : List ℕ) (arena : ℕ) (f : Frame) (o : ℕ) (x : M.Frame) → FrameIs table job w arena f o x → f.kind ≡ kind_of x
unfolding FrameIs kind_of
kind_is table job w arena f o (labelled π l) h = h.0
kind_is table job w arena f o (sequence_left π u) h = h.0
kind_is table job w arena f o (sequence_right π s) h = h.0
kind_is table job w arena f o (tensor_left π u g) h = h.0
kind_is table job w arena f o (tensor_right π s g) h = h.0
kind_is table job w arena f o (alternation_left π u g) h = h.0

-- what is to be shown of a waiting term of a kind, chosen by computing
abbrev pub Case : (P : M.Frame → Type 0) → ℕ → Type 0
Case P k =
    cond (eqb k 1) ((π : M.Place) (l : Label) → P (labelled π l))
    (cond (eqb k 2) ((π : M.Place) (u : Term) → P (sequence_left π u))
    (cond (eqb k 3) ((π : M.Place) (s : Term) → P (sequence_right π s))
    (cond (eqb k 4) ((π : M.Place) (u : Term) (g : List Goal) → P (tensor_left π u g))
    (cond (eqb k 5) ((π : M.Place) (s : Term) (g : List Goal) → P (tensor_right π s g))
    ((π : M.Place) (u : Term) (g : List Goal) → P (alternation_left π u g))))))

pub by_kind : (P : M.Frame → Type 0) (k : ℕ) → Case P k → (x : M.Frame) → k ≡ kind_of x → P x
unfolding kind_of
by_kind P k c (labelled π l) e = subst (Case P) e c π l
by_kind P k c (sequence_left π u) e = subst (Case P) e c π u
by_kind P k c (sequence_right π s) e = subst (Case P) e c π s
by_kind P k c (tensor_left π u g) e = subst (Case P) e c π u g
by_kind P k c (tensor_right π s g) e = subst (Case P) e c π s g
by_kind P k c (alternation_left π u g) e = subst (Case P) e c π u g

-- a limit is neither a proof nor a failure, nor is a term to begin
pub limit_not_running : (mode : Mode) (c : Cause) → LimitMode mode c → mode ≡ is.Running → ⊥
limit_not_running _ _ overflows m = cc
limit_not_running _ _ exceeds m = cc

limit_not_proved : (mode : Mode) (c : Cause) → LimitMode mode c → mode ≡ is.Proved → ⊥
limit_not_proved _ _ overflows m = cc
limit_not_proved _ _ exceeds m = cc

limit_not_failed : (mode : Mode) (c : Cause) → LimitMode mode c → mode ≡ is.Failed → ⊥
limit_not_failed _ _ overflows m = cc
limit_not_failed _ _ exceeds m = cc

-- which ending it is
module _ (table job w : List ℕ) (s : State) (k : List M.Frame) (P : Ending → Type 0) where
  pub if_proved : s.mode ≡ is.Proved → ((p : Term) (g : List Goal) → Proved table job w s p g k → P (proved p g)) → (e : Ending) → Ends table job w s e k → P e
  unfolding Ends
  if_proved m f (proved p g) h = f p g h
  if_proved m f failed h = let e = h.mode_is in cc
  if_proved m f (ended c) h = absurd (limit_not_proved s.mode c h.limit m)

  pub if_failed : s.mode ≡ is.Failed → (Lost is.Failed table job w s k → P failed) → (e : Ending) → Ends table job w s e k → P e
  unfolding Ends
  if_failed m f (proved p g) h = let e = h.mode_is in cc
  if_failed m f failed h = f h
  if_failed m f (ended c) h = absurd (limit_not_failed s.mode c h.limit m)

  pub if_ended : (s.mode ≡ is.Proved → ⊥) → (s.mode ≡ is.Failed → ⊥) → ((c : Cause) → Limited table job w s c k → P (ended c)) → (e : Ending) → Ends table job w s e k → P e
  unfolding Ends
  if_ended a b f (proved p g) h = absurd (a h.mode_is)
  if_ended a b f failed h = absurd (b h.mode_is)
  if_ended a b f (ended c) h = f c h

-- the frames under a term that ended
pub record Under (table job w : List ℕ) (s : State) (k : List M.Frame) : Type 0 where
  pub from : ℕ
  pub below : from ≤ s.out
  pub frames : FramesAt table job w s.arena k s.top from
  pub sizes : Sizes s

pub under : (table job w : List ℕ) (s : State) (e : Ending) (k : List M.Frame) → Ends table job w s e k → Under table job w s k
unfolding Ends
under table job w s (proved p g) k h = record { from = h.from; below = omega (arith, h.out_is); frames = h.frames; sizes = h.sizes }
under table job w s failed k h = record { from = h.from; below = h.below; frames = h.frames; sizes = h.sizes }
under table job w s (ended c) k h = record { from = h.lost.from; below = h.lost.below; frames = h.lost.frames; sizes = h.lost.sizes }

under_fits : (table job w : List ℕ) (s : State) (k : List M.Frame) → s.steps ≤ most_steps → space_end ≤ length w → Under table job w s k → Fits w s
under_fits table job w s k few room u = record {
  output_fits = omega (arith, few, u.sizes.output_fits);
  goals_low = u.sizes.goals_low;
  goals_fit = omega (arith, u.sizes.held_fits, u.sizes.goals_fit);
  frames_low = omega (arith, few, u.sizes.frames_fit);
  frames_high = frames_top table job w s.arena k s.top u.from u.frames;
  space = room;
}

pub unwinding_fits : (w : List ℕ) (s : State) → Unwinding w s → Fits w s
unwinding_fits w s h = under_fits h.table h.job w s h.frames h.few_steps h.space (under h.table h.job w s h.ending h.frames h.ends)

module _ (w : List ℕ) (s : State) (h : Waiting w s) where
  waiting_under : Under h.table h.job w s (h.frame ∷ h.frames)
  waiting_under = under h.table h.job w s h.ending (h.frame ∷ h.frames) h.ends

  pub waiting-fits : Fits w s
  waiting-fits = under_fits h.table h.job w s (h.frame ∷ h.frames) h.few_steps h.space waiting_under

  pub waiting_top : s.top + 19 ≤ frames_end
  waiting_top = let u = waiting_under in frame_top h.table h.job w s.arena h.frame h.frames s.top u.from u.frames

  -- the goals that the innermost waiting term began with
  pub waiting-began : Began (frame_at w s.top) s.arena h.frames
  unfolding FramesAt
  waiting-began = waiting_under.frames.2

  pub waiting-held : s.held ≤ most_held
  waiting-held = waiting_under.sizes.held_fits

  pub waiting_mark : (frame_at w s.top).mark ≤ s.out
  waiting_mark = let u = waiting_under in omega (arith, frame_mark h.table h.job w s.arena h.frame h.frames s.top u.from u.frames, u.below)

  -- what is known once its frame was loaded
  pub loaded : (f : Frame) → s.mode ≡ is.Proved → f ≡ frame_at w s.top → Loaded w s f
  loaded f m e =
      let few : (s.count ≤ 256) × (s.start + s.count * 2 ≤ s.arena) =
      if_proved h.table h.job w s (h.frame ∷ h.frames) (λ z. (s.count ≤ 256) × (s.start + s.count * 2 ≤ s.arena)) m (λ p g a. (a.goals.few, a.goals.high)) h.ending h.ends in
      let began = subst (λ (y : Frame). Began y s.arena h.frames) (sym e) waiting-began in
      record {
        mode_is = m;
        frame_is = e;
        waiting = h;
        fits = waiting-fits;
        top_inside = waiting_top;
        held_fits = waiting-held;
        few_goals = few.0;
        goals_high = few.1;
        mark_before = subst (λ (y : Frame). y.mark ≤ s.out) (sym e) waiting_mark;
        arena_low = began.goals_low;
        arena_before = began.goals_before;
      }

-- the innermost waiting term, and the others, by the frame that the code loaded
pub record Innermost (table job w : List ℕ) (s : State) (f : Frame) (o : ℕ) (x : M.Frame) (k : List M.Frame) : Type 0 where
  pub frame : FrameIs table job w s.arena f o x
  pub rest : FramesAt table job w f.arena k (s.top + 19) f.mark
  pub began : Began f s.arena k
  pub kind : f.kind ≡ kind_of x

pub innermost : (table job w : List ℕ) (s : State) (f : Frame) (o : ℕ) (x : M.Frame) (k : List M.Frame) → f ≡ frame_at w s.top
    → FramesAt table job w s.arena (x ∷ k) s.top o → Innermost table job w s f o x k
unfolding FramesAt
innermost table job w s f o x k e h =
    let one : FrameIs table job w s.arena f o x = subst (λ (y : Frame). FrameIs table job w s.arena y o x) (sym e) h.0 in
    record {
      frame = one;
      rest = subst (λ (y : Frame). FramesAt table job w y.arena k (s.top + 19) y.mark) (sym e) h.1;
      began = subst (λ (y : Frame). Began y s.arena k) (sym e) h.2;
      kind = kind_is table job w s.arena f o x one;
    }
