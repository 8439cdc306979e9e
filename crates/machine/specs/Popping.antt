-- One frame taken off, and frames taken off until a term is to begin or none waits: what evaluation's machine does, and what the code does.
use Rattle.std.specs.Prelude.{ℕ, ◌+◌, ◌*◌, ◌≤◌, ◌<◌, ◌≡◌, List, ◌∷◌, length, get_or}
use Rattle.format.specs.Limits.{most_steps, most_held}
use Rattle.evaluation.specs.Outcomes.{Ending, proved, failed, ended, in_label, after_left, beside_left}
use Rattle.evaluation.specs.Machine as M
use Rattle.evaluation.specs.Machine.{labelled, sequence_left, sequence_right, tensor_left, tensor_right, alternation_left, held, running, unwind}
use Rattle.arities.specs.Layout.{output_end, goals_end, frames_end, space_end}
use Rattle.frames.specs.declared.Frame.{Frame}
use Rattle.frames.specs.Frames.{frame_at}
use Rattle.machine.specs.declared.state.Mode.{Mode}
use Rattle.machine.specs.declared.state.Mode.TheVariants as is
use Rattle.machine.specs.declared.state.State.{State}
use Rattle.machine.specs.Shows.{Config, next, done, Ends, Holds, Shows}

-- one frame taken off
unfoldable pub pop : Ending → M.Frame → List M.Frame → Config
pop e (labelled π l) k = done (in_label (held k) l e) k
pop (proved s g) (sequence_left π u) k = next π u g (sequence_right π s ∷ k)
pop failed (sequence_left π u) k = done failed k
pop (ended c) (sequence_left π u) k = done (ended c) k
pop e (sequence_right π s) k = done (after_left (held k) s e) k
pop (proved s g) (tensor_left π u h) k = next π u h (tensor_right π s g ∷ k)
pop failed (tensor_left π u h) k = done failed k
pop (ended c) (tensor_left π u h) k = done (ended c) k
pop e (tensor_right π s g) k = done (beside_left (held k) s g e) k
pop (proved s g) (alternation_left π u h) k = done (proved s g) k
pop failed (alternation_left π u h) k = next π u h k
pop (ended c) (alternation_left π u h) k = done (ended c) k

-- where the machine stands after that
unfoldable pub settle : Config → M.Control
settle (next π t g k) = running π t g k
settle (done e k) = unwind e k

-- the numbers of a state by the regions of the work space
pub record Fits (w : List ℕ) (s : State) : Type 0 where
  pub output_fits : s.out ≤ output_end
  pub goals_low : output_end ≤ s.arena
  pub goals_fit : s.arena + 512 ≤ goals_end
  pub frames_low : goals_end ≤ s.top
  pub frames_high : s.top ≤ frames_end
  pub space : space_end ≤ length w

-- after a frame was taken off: the arities and the steps are the same, and a state that does not begin a term has fewer frames
pub record Smaller (w : List ℕ) (s : State) (v : List ℕ) (r : State) : Type 0 where
  pub beyond : (i : ℕ) → frames_end ≤ i → get_or v i 0 ≡ get_or w i 0
  pub same_length : length v ≡ length w
  pub same_steps : r.steps ≡ s.steps
  pub further : (r.mode ≡ is.Running → ⊥) → s.top < r.top

-- after any frames were taken off
pub record Fewer (w : List ℕ) (s : State) (v : List ℕ) (r : State) : Type 0 where
  pub beyond : (i : ℕ) → frames_end ≤ i → get_or v i 0 ≡ get_or w i 0
  pub same_length : length v ≡ length w
  pub same_steps : r.steps ≡ s.steps

-- what a function that takes one frame off is given and what it does
pub record Waiting (w : List ℕ) (s : State) : Type 0 where
  pub few_steps : s.steps ≤ most_steps
  pub space : space_end ≤ length w
  pub table : List ℕ
  pub job : List ℕ
  pub ending : Ending
  pub frame : M.Frame
  pub frames : List M.Frame
  pub ends : Ends table job w s ending (frame ∷ frames)

abbrev pub Popped : List ℕ → State → List ℕ → State → Type 0
Popped w s v r = (table job : List ℕ) (e : Ending) (x : M.Frame) (k : List M.Frame) → Ends table job w s e (x ∷ k) → Holds table job v r (pop e x k)

-- the kinds of frame whose field is closed when their inner term ends: of a label, and of a sequence that waits for its right term
abbrev pub Closing : (kind : ℕ) → Type 0
Closing kind = (kind ≡ 2 → ⊥) × (kind ≡ 4 → ⊥) × (kind ≡ 5 → ⊥) × (kind ≡ 6 → ⊥)

-- What a function is given that goes on with the frame that was loaded, after a term that proved its goals: the frame is the first of those that wait, and the
-- numbers of the state and of the frame are small.
pub record Loaded (w : List ℕ) (s : State) (f : Frame) : Type 0 where
  pub mode_is : s.mode ≡ is.Proved
  pub frame_is : f ≡ frame_at w s.top
  pub waiting : Waiting w s
  pub fits : Fits w s
  pub top_inside : s.top + 19 ≤ frames_end
  pub held_fits : s.held ≤ most_held
  pub few_goals : s.count ≤ 256
  pub goals_high : s.start + s.count * 2 ≤ s.arena
  pub mark_before : f.mark ≤ s.out
  pub arena_low : output_end ≤ f.arena
  pub arena_before : f.arena ≤ s.arena

-- the field that a frame closes has its own three bytes, and so few fields that its length can be stored
pub record Closes (s : State) (f : Frame) : Type 0 where
  pub room : f.mark + 3 ≤ s.out
  pub short : s.out < f.mark + 3 + 65536

-- the goals that a tensor's left term gave are few, and lie below the end of all goals
pub record Joins (s : State) (f : Frame) : Type 0 where
  pub closes : Closes s f
  pub left_few : f.count ≤ 256
  pub left_high : f.start + f.count * 2 ≤ s.arena

-- what the unwinding function is given and what it does
pub record Unwinding (w : List ℕ) (s : State) : Type 0 where
  pub few_steps : s.steps ≤ most_steps
  pub space : space_end ≤ length w
  pub table : List ℕ
  pub job : List ℕ
  pub ending : Ending
  pub frames : List M.Frame
  pub ends : Ends table job w s ending frames

abbrev pub Unwound : List ℕ → State → List ℕ → State → Type 0
Unwound w s v r = (table job : List ℕ) (e : Ending) (k : List M.Frame) → Ends table job w s e k → Shows table job v r (unwind e k)

-- the same state without its first frame
abbrev pub leave : State → State
leave s = record { mode = s.mode; file = s.file; at = s.at; start = s.start; count = s.count; top = s.top + 19; arena = s.arena; out = s.out; held = s.held; steps = s.steps }

-- go on with the term of a frame, on the goals of the frame: output, goals and fields held are what they were when the frame's term began
abbrev pub alternative : State → Frame → State
alternative s f = record { mode = is.Running; file = f.file; at = f.at; start = f.start; count = f.count; top = s.top + 19; arena = f.arena; out = f.mark; held = f.held; steps = s.steps }

-- go on with the right term of a frame that stays, on the goals that its left term gave
abbrev pub turn : State → Frame → State
turn s f = record { mode = is.Running; file = f.file; at = f.at; start = s.start; count = s.count; top = s.top; arena = s.arena; out = s.out; held = s.held; steps = s.steps }

-- the same, on the goals of the frame
abbrev pub beside : State → Frame → State
beside s f = record { mode = is.Running; file = f.file; at = f.at; start = f.start; count = f.count; top = s.top; arena = s.arena; out = s.out; held = s.held; steps = s.steps }

-- the frame that stays, with the goals that the left term gave
abbrev pub turned : (kind : ℕ) → State → Frame → Frame
turned kind s f = record { kind = kind; file = f.file; at = f.at; count = s.count; start = s.start; mark = f.mark; held = f.held; arena = f.arena }

-- the field of a label or of a sequence closed: it is held too
abbrev pub closed : State → State
closed s = record { mode = is.Proved; file = s.file; at = s.at; start = s.start; count = s.count; top = s.top + 19; arena = s.arena; out = s.out; held = s.held + 1; steps = s.steps }

-- the two lists joined, in the place of all goals since the tensor began
abbrev pub joined : State → Frame → State
joined s f = record {
  mode = is.Proved;
  file = s.file;
  at = s.at;
  start = f.arena;
  count = f.count + s.count;
  top = s.top + 19;
  arena = f.arena + (f.count + s.count) * 2;
  out = s.out;
  held = s.held + 1;
  steps = s.steps;
}

-- the run ended by a limit, when the term of a frame was to end
abbrev pub ended_by : (mode : Mode) → State → State
ended_by mode s = record { mode = mode; file = s.file; at = s.at; start = s.start; count = s.count; top = s.top + 19; arena = s.arena; out = s.out; held = s.held; steps = s.steps }
