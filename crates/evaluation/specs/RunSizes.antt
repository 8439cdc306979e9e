-- Document 01, "Running a tactic": what a run's state holds, counted.
use Rattle.std.specs.Prelude.{ℕ, suc, ◌+◌, ◌≤◌, List, [], ◌∷◌, length}
use Rattle.format.specs.declared.values.Goal.{Goal}
use Rattle.format.specs.Terms.{fields}
use Rattle.evaluation.specs.Outcomes.{Ending, proved, failed, ended}
use Rattle.evaluation.specs.Machine.{frame_fields, held, Frame, labelled, sequence_left, sequence_right, tensor_left, tensor_right, alternation_left, Control, running, stopped}

-- the term fields of an ending
abbrev pub ending_fields : Ending → ℕ
ending_fields (proved s g) = fields s
ending_fields failed = 0
ending_fields (ended c) = 0

-- the goals that a waiting term keeps
abbrev pub frame_goals : Frame → List Goal
frame_goals (labelled π l) = []
frame_goals (sequence_left π u) = []
frame_goals (sequence_right π s) = []
frame_goals (tensor_left π u g) = g
frame_goals (tensor_right π s g) = g
frame_goals (alternation_left π u g) = g

-- the waiting terms and the fields that they keep, together
abbrev pub waiting : List Frame → ℕ
waiting [] = 0
waiting (x ∷ w) = suc (frame_fields x + waiting w)

-- the goals that the waiting terms keep
abbrev pub waiting_goals : List Frame → ℕ
waiting_goals [] = 0
waiting_goals (x ∷ w) = length (frame_goals x) + waiting_goals w

-- P12: of the whole state the fields that are held, at the end those of the proof
abbrev pub held_fields : Control → ℕ
held_fields (running π t g w) = held w
held_fields (stopped e) = ending_fields e

-- and these together with the waiting terms
abbrev pub kept : Control → ℕ
kept (running π t g w) = waiting w
kept (stopped e) = ending_fields e

-- every list of at most 256 goals: those of the waiting terms
abbrev pub ShortFrames : List Frame → Type 0
ShortFrames [] = Unit {0}
ShortFrames (x ∷ w) = (length (frame_goals x) ≤ 256) × ShortFrames w

-- the goals given
abbrev pub ShortEnding : Ending → Type 0
ShortEnding (proved s g) = length g ≤ 256
ShortEnding failed = Unit {0}
ShortEnding (ended c) = Unit {0}

-- and, while a term is to begin, its goals
abbrev pub Short : Control → Type 0
Short (running π t g w) = (length g ≤ 256) × ShortFrames w
Short (stopped e) = ShortEnding e
