-- What the code's state and its work space stand for: a state of evaluation's machine.
use Rattle.std.specs.Prelude.{ℕ, ◌+◌, ◌*◌, ◌≤◌, ◌≡◌, List, [], ◌∷◌, get_or}
use Rattle.words.specs.Word.{word}
use Rattle.format.specs.declared.values.Goal.{Goal}
use Rattle.format.specs.Limits.{most_held}
use Rattle.format.specs.declared.refusals.Cause.{Cause}
use Rattle.format.specs.declared.refusals.Cause.TheVariants.{JoinedTooLong, FieldsTooMany}
use Rattle.format.specs.Goals.{goals_at}
use Rattle.format.specs.Terms.{Term, size, fields}
use Rattle.format.specs.Standing.{Stands}
use Rattle.evaluation.specs.Outcomes.{Ending, proved, failed, ended}
use Rattle.evaluation.specs.Machine as M
use Rattle.evaluation.specs.Machine.{labelled, sequence_left, sequence_right, tensor_left, tensor_right, alternation_left, held, running, stopped}
use Rattle.arities.specs.Layout.{output_end, frames_end}
use Rattle.tactics.specs.Source.{source}
use Rattle.frames.specs.declared.Frame.{Frame}
use Rattle.frames.specs.Frames.{frame_at}
use Rattle.machine.specs.declared.state.Mode.{Mode}
use Rattle.machine.specs.declared.state.Mode.TheVariants as is
use Rattle.machine.specs.declared.state.State.{State}

-- a list of goals lies in the part of the goals that is in use
pub record GoalsIs (w : List ℕ) (arena start count : ℕ) (g : List Goal) : Type 0 where
  pub low : output_end ≤ start
  pub high : start + count * 2 ≤ arena
  pub few : count ≤ 256
  pub are : goals_at w start count ≡ g

-- the place that a frame names, and that of the term to begin
abbrev pub place_of : Frame → M.Place
place_of f = record { file = f.file; at = f.at }

abbrev pub here : State → M.Place
here s = record { file = s.file; at = s.at }

-- A frame of the code is a waiting term; o is where the output of the inner term begins, arena where the goals end. The goals of an alternation lie before those of
-- its left term, which are given up if that fails; what a tensor's left term gave is at most eight goals for each of its fields.
unfoldable pub FrameIs : (table job w : List ℕ) → (arena : ℕ) → Frame → (o : ℕ) → M.Frame → Type 0
FrameIs table job w arena f o (labelled π l) = (f.kind ≡ 1) × (o ≡ f.mark + 5) × (get_or w f.mark 0 ≡ 18) × (word w (f.mark + 3) ≡ l.0) × (place_of f ≡ π)
FrameIs table job w arena f o (sequence_left π u) = (f.kind ≡ 2) × (o ≡ f.mark + 3) × (get_or w f.mark 0 ≡ 19) × Stands (source table job f.file) f.at u × (place_of f ≡ π)
FrameIs table job w arena f o (sequence_right π s) = (f.kind ≡ 3) × (o ≡ f.mark + 3 + size s) × (get_or w f.mark 0 ≡ 19) × Stands w (f.mark + 3) s × (place_of f ≡ π)
FrameIs table job w arena f o (tensor_left π u h) = (f.kind ≡ 4) × (o ≡ f.mark + 3) × (get_or w f.mark 0 ≡ 20) × Stands (source table job f.file) f.at u × GoalsIs w arena f.start f.count h × (place_of f ≡ π)
FrameIs table job w arena f o (tensor_right π s g) = (f.kind ≡ 5) × (o ≡ f.mark + 3 + size s) × (get_or w f.mark 0 ≡ 20) × Stands w (f.mark + 3) s × GoalsIs w arena f.start f.count g × (place_of f ≡ π) × (f.count ≤ 8 * fields s)
FrameIs table job w arena f o (alternation_left π u h) = (f.kind ≡ 6) × (o ≡ f.mark) × Stands (source table job f.file) f.at u × GoalsIs w f.arena f.start f.count h × (place_of f ≡ π)

-- what a frame keeps of the moment at which its term began, with the waiting terms outside it: the fields that they hold, and the end of the goals
pub record Began (f : Frame) (arena : ℕ) (k : List M.Frame) : Type 0 where
  pub held_is : f.held ≡ held k
  pub held_fits : f.held ≤ most_held
  pub goals_fit : f.arena ≤ output_end + 512 + 16 * f.held
  pub goals_low : output_end ≤ f.arena
  pub goals_before : f.arena ≤ arena

-- the waiting terms, innermost first, from the top of the frames on; the goals of those outside lie before those of the ones inside
unfoldable pub FramesAt : (table job w : List ℕ) → (arena : ℕ) → List M.Frame → (top o : ℕ) → Type 0
FramesAt table job w arena [] top o = (top ≡ frames_end) × (o ≡ 0)
FramesAt table job w arena (x ∷ k) top o =
    FrameIs table job w arena (frame_at w top) o x × FramesAt table job w (frame_at w top).arena k (top + 19) (frame_at w top).mark × Began (frame_at w top) arena k

-- The numbers of a state: by the steps taken, and the goals by the fields held. A rule used gives at most eight goals, in 16 bytes; a joined list takes the place of
-- those that were joined, and a failed alternative gives all of its own up.
pub record Sizes (s : State) : Type 0 where
  pub output_fits : s.out ≤ 5 * s.steps
  pub held_fits : s.held ≤ most_held
  pub goals_low : output_end ≤ s.arena
  pub goals_fit : s.arena ≤ output_end + 512 + 16 * s.held
  pub frames_fit : frames_end ≤ s.top + 19 * s.steps

-- a term that is to begin
pub record Runs (table job w : List ℕ) (s : State) (π : M.Place) (t : Term) (g : List Goal) (k : List M.Frame) : Type 0 where
  pub mode_is : s.mode ≡ is.Running
  pub place_is : here s ≡ π
  pub stands : Stands (source table job s.file) s.at t
  pub goals : GoalsIs w s.arena s.start s.count g
  pub frames : FramesAt table job w s.arena k s.top s.out
  pub held_is : s.held ≡ held k
  pub sizes : Sizes s

-- a term that ended with a proof, whose field is the last of the output
pub record Proved (table job w : List ℕ) (s : State) (p : Term) (g : List Goal) (k : List M.Frame) : Type 0 where
  pub mode_is : s.mode ≡ is.Proved
  pub from : ℕ
  pub stands : Stands w from p
  pub out_is : s.out ≡ from + size p
  pub goals : GoalsIs w s.arena s.start s.count g
  pub few_goals : s.count ≤ 8 * fields p
  pub frames : FramesAt table job w s.arena k s.top from
  pub held_is : s.held ≡ held k + fields p
  pub sizes : Sizes s

-- a term that ended without one
pub record Lost (mode : Mode) (table job w : List ℕ) (s : State) (k : List M.Frame) : Type 0 where
  pub mode_is : s.mode ≡ mode
  pub from : ℕ
  pub below : from ≤ s.out
  pub frames : FramesAt table job w s.arena k s.top from
  pub sizes : Sizes s

-- how a state stands that a limit ended: a joined list too long (22), or more fields than may be held (40)
pub data LimitMode : (mode : Mode) → Cause → Type 0 where
  overflows : LimitMode is.Overflowed JoinedTooLong
  exceeds : LimitMode is.Exceeded FieldsTooMany

pub record Limited (table job w : List ℕ) (s : State) (c : Cause) (k : List M.Frame) : Type 0 where
  pub limit : LimitMode s.mode c
  pub lost : Lost s.mode table job w s k

unfoldable pub Ends : (table job w : List ℕ) → State → Ending → List M.Frame → Type 0
Ends table job w s (proved p g) k = Proved table job w s p g k
Ends table job w s failed k = Lost is.Failed table job w s k
Ends table job w s (ended c) k = Limited table job w s c k

-- between two frames: a term to begin, or a term that ended
pub data Config : Type 0 where
  next : M.Place → Term → List Goal → List M.Frame → Config
  done : Ending → List M.Frame → Config

unfoldable pub Holds : (table job w : List ℕ) → State → Config → Type 0
Holds table job w s (next π t g k) = Runs table job w s π t g k
Holds table job w s (done e k) = Ends table job w s e k

-- where the machine stands
unfoldable pub Shows : (table job w : List ℕ) → State → M.Control → Type 0
Shows table job w s (running π t g k) = Runs table job w s π t g k
Shows table job w s (stopped e) = Ends table job w s e []
