-- One term begun: what is next, or how it ended; and the code's states after it.
use Rattle.std.specs.Prelude.{ℕ, ◌+◌, ◌*◌, ◌-◌, ◌≤◌, ◌<◌, ◌≡◌, List, ◌∷◌, length}
use Rattle.std.proofs.Math.Option.{Option, none, some}
use Rattle.format.specs.declared.values.RuleName.{RuleName}
use Rattle.format.specs.declared.values.Goal.{Goal}
use Rattle.format.specs.declared.values.Label.{Label}
use Rattle.format.specs.declared.values.TacticNo.{TacticNo}
use Rattle.format.specs.Limits.{most_steps, most_held}
use Rattle.format.specs.Terms.{Term, atomic, id, label, sequence, tensor, empty, alternation, assert, defined, size}
use Rattle.tables.specs.Tables.{Table}
use Rattle.tables.specs.Lookup.{find_body}
use Rattle.tables.specs.Places.{body_place}
use Rattle.evaluation.specs.TacticArity.{tactic_arity}
use Rattle.evaluation.specs.Outcomes as outcome
use Rattle.evaluation.specs.Outcomes.{rule_gives, one_goal, no_goal, assert_gives, split_by, finished}
use Rattle.evaluation.specs.Machine as M
use Rattle.evaluation.specs.Machine.{past, labelled, sequence_left, tensor_left, alternation_left, held}
use Rattle.arities.specs.Layout.{output_end, goals_end, frames_end, space_end}
use Rattle.tactics.specs.Numbers.{put_header}
use Rattle.frames.specs.declared.Frame.{Frame}
use Rattle.machine.specs.declared.state.Mode.{Mode}
use Rattle.machine.specs.declared.state.Mode.TheVariants as is
use Rattle.machine.specs.declared.state.State.{State}
use Rattle.machine.specs.Shows.{GoalsIs, Config, next, done, Runs, Holds}

-- fail, or go on
abbrev pub enter : {A : Type 0} → Option A → List M.Frame → (A → Config) → Config
enter none k f = done outcome.failed k
enter (some a) k f = f a

-- what is next after each form of term
abbrev pub atomic_next : RuleName → Option (List Goal) → M.Place → List Goal → List M.Frame → Config
atomic_next a o π g k = done (finished (held k) (atomic a) o) k

abbrev pub rule_next : Table → RuleName → M.Place → List Goal → List M.Frame → Config
rule_next T a π g k = done (finished (held k) (atomic a) (rule_gives T a g)) k

abbrev pub id_next : M.Place → List Goal → List M.Frame → Config
id_next π g k = done (finished (held k) id (one_goal g)) k

abbrev pub label_next : Label → Term → M.Place → List Goal → List M.Frame → Config
label_next l t π g k = enter (one_goal g) k λ h. next (past π 5) t h (labelled (past π 5) l ∷ k)

abbrev pub sequence_next : Term → Term → M.Place → List Goal → List M.Frame → Config
sequence_next t u π g k = next (past π 3) t g (sequence_left (past π (3 + size t)) u ∷ k)

abbrev pub tensor_next : Option ℕ → Term → Term → M.Place → List Goal → List M.Frame → Config
tensor_next o t u π g k = enter (split_by o g) k λ p. next (past π 3) t p.left_goals (tensor_left (past π (3 + size t)) u p.right_goals ∷ k)

abbrev pub empty_next : M.Place → List Goal → List M.Frame → Config
empty_next π g k = done (finished (held k) empty (no_goal g)) k

abbrev pub alternation_next : Term → Term → M.Place → List Goal → List M.Frame → Config
alternation_next t u π g k = next (past π 3) t g (alternation_left (past π (3 + size t)) u g ∷ k)

abbrev pub assert_next : Table → Goal → M.Place → List Goal → List M.Frame → Config
assert_next T γ π g k = done (finished (held k) id (assert_gives T γ g)) k

abbrev pub defined_next : Table → TacticNo → M.Place → List Goal → List M.Frame → Config
defined_next T d π g k = enter (find_body T d) k λ t. next (record { file = 0; at = body_place T d }) t g k

-- a term begun, before the terms that wait are looked at
unfoldable pub begun : Table → M.Place → Term → List Goal → List M.Frame → Config
begun T π (atomic a) g k = rule_next T a π g k
begun T π id g k = id_next π g k
begun T π (label l t) g k = label_next l t π g k
begun T π (sequence t u) g k = sequence_next t u π g k
begun T π (tensor t u) g k = tensor_next (tactic_arity T t) t u π g k
begun T π empty g k = empty_next π g k
begun T π (alternation t u) g k = alternation_next t u π g k
begun T π (assert γ) g k = assert_next T γ π g k
begun T π (defined d) g k = defined_next T d π g k

-- room for one more term
pub record Room (w : List ℕ) (s : State) : Type 0 where
  pub steps_left : s.steps < most_steps
  pub output_fits : s.out + 5 ≤ output_end
  pub goals_low : output_end ≤ s.arena
  pub goals_fit : s.arena + 512 ≤ goals_end
  pub held_fits : s.held ≤ most_held
  pub frames_low : goals_end + 19 ≤ s.top
  pub frames_high : s.top ≤ frames_end
  pub space : space_end ≤ length w

-- what beginning a term is given: room, and the goals that lie in the work space
pub record Ready (w : List ℕ) (s : State) : Type 0 where
  pub room : Room w s
  pub at_small : s.at < 65536
  pub goals : List Goal
  pub goals_are : GoalsIs w s.arena s.start s.count goals

-- what beginning a term does
abbrev pub BeginsIn : (table job : List ℕ) → List ℕ → State → List ℕ → State → Term → (M.Place → List Goal → List M.Frame → Config) → Type 0
BeginsIn table job w s v r t c = (π : M.Place) (g : List Goal) (k : List M.Frame) → Runs table job w s π t g k → Holds table job v r (c π g k)

abbrev pub Begins : List ℕ → State → List ℕ → State → Term → (M.Place → List Goal → List M.Frame → Config) → Type 0
Begins w s v r t c = (table job : List ℕ) → BeginsIn table job w s v r t c

-- the term ends without a proof: it fails, or the run ends by a limit
abbrev pub lost : (mode : Mode) → State → State
lost mode s = record { mode = mode; file = s.file; at = s.at; start = s.start; count = s.count; top = s.top; arena = s.arena; out = s.out; held = s.held; steps = s.steps + 1 }

abbrev pub failed : State → State
failed = lost is.Failed

abbrev pub exceeded : State → State
exceeded = lost is.Exceeded

-- the term gives its goals back and leaves a field of three bytes
abbrev pub kept : State → State
kept s = record { mode = is.Proved; file = s.file; at = s.at; start = s.start; count = s.count; top = s.top; arena = s.arena; out = s.out + 3; held = s.held + 1; steps = s.steps + 1 }

-- a field without contents is left, or one more cannot be held
pub record Keeps (w : List ℕ) (s : State) (tag : ℕ) (v : List ℕ) (r : State) : Type 0 where
  pub full : most_held ≤ s.held → (v ≡ w) × (r ≡ exceeded s)
  pub fits : s.held < most_held → (v ≡ put_header w s.out tag 0) × (r ≡ kept s)

-- the inner term is next: so many bytes on in the file, on the first of the goals; the hiproof's new end
abbrev pub entered : State → (on count out : ℕ) → State
entered s on count out =
    record { mode = is.Running; file = s.file; at = s.at + on; start = s.start; count = count; top = s.top - 19; arena = s.arena; out = out; held = s.held; steps = s.steps + 1 }

-- a frame with what it keeps of the moment at which its term begins
abbrev pub frame_of : State → (kind at count start : ℕ) → Frame
frame_of s kind at count start = record { kind = kind; file = s.file; at = at; count = count; start = start; mark = s.out; held = s.held; arena = s.arena }

-- the frames of a sequence, of an alternation, of a label and of a tensor
abbrev pub sequence_frame : State → (right : ℕ) → Frame
sequence_frame s right = frame_of s 2 right 0 0

abbrev pub alternation_frame : State → (right : ℕ) → Frame
alternation_frame s right = frame_of s 6 right s.count s.start

abbrev pub label_frame : State → Frame
label_frame s = frame_of s 1 (s.at + 5) 0 0

abbrev pub tensor_frame : State → (right left : ℕ) → Frame
tensor_frame s right n = frame_of s 4 right (s.count - n) (s.start + n * 2)

-- the premises at the top of the goals, the field of a rule's name in the output
abbrev pub used : State → (count : ℕ) → State
used s n =
    record { mode = is.Proved; file = s.file; at = s.at; start = s.arena; count = n; top = s.top; arena = s.arena + n * 2; out = s.out + 5; held = s.held + 1; steps = s.steps + 1 }

-- the body of a definition is next
abbrev pub unfolded : State → (place : ℕ) → State
unfolded s place = record { mode = is.Running; file = 0; at = place; start = s.start; count = s.count; top = s.top; arena = s.arena; out = s.out; held = s.held; steps = s.steps + 1 }
