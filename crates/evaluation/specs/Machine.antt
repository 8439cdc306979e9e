-- Document 01, "Running a tactic", and document 02, P12: the machine.
use Rattle.std.specs.Prelude.{ℕ, zero, suc, ◌+◌, List, [], ◌∷◌}
use Rattle.std.proofs.Math.Option.{Option, none, some}
use Rattle.format.specs.declared.values.Goal.{Goal}
use Rattle.format.specs.declared.values.Label.{Label}
use Rattle.format.specs.Terms.{Term, atomic, id, label, sequence, tensor, empty, alternation, assert, defined, size, fields}
use Rattle.tables.specs.Tables.{Table}
use Rattle.tables.specs.Lookup.{find_body}
use Rattle.tables.specs.Places.{body_place}
use Rattle.evaluation.specs.TacticArity.{tactic_arity}
use Rattle.evaluation.specs.Outcomes.{Ending, proved, failed, ended, rule_gives, one_goal, no_goal, assert_gives, split_by, finished, in_label, after_left, beside_left}

-- where a term's field stands: in the table (file 0) or in the job (file 1), at a byte offset
pub record Place : Type 0 where
  pub file : ℕ
  pub at : ℕ

-- so many bytes further on
abbrev pub past : Place → ℕ → Place
past π n = record { file = π.file; at = π.at + n }

-- A term that waits for an inner term to end, with the place of its last inner term and what it still needs: for a right term that is to begin its goals, of a left term that ended its
-- hiproof and, in a tensor, the goals it gave.
pub data Frame : Type 0 where
  labelled : Place → Label → Frame
  sequence_left : Place → (right : Term) → Frame
  sequence_right : Place → (left : Term) → Frame
  tensor_left : Place → (right : Term) (goals : List Goal) → Frame
  tensor_right : Place → (left : Term) (gave : List Goal) → Frame
  alternation_left : Place → (right : Term) (goals : List Goal) → Frame

-- a term that is to begin, its goals and the terms that wait, innermost first; or the run's ending
pub data Control : Type 0 where
  running : Place → Term → List Goal → List Frame → Control
  stopped : Ending → Control

-- "steps (terms begun ..)", and where the run stands
pub record State : Type 0 where
  pub steps : ℕ
  pub control : Control

-- the state after so many steps
abbrev pub after : (steps : ℕ) → Control → State
after n κ = record { steps = n; control = κ }

-- the run has not ended; at the end of the budget this is 24
abbrev pub Running : Control → Type 0
Running (running π t g w) = Unit {0}
Running (stopped e) = ⊥

-- the term fields that a waiting term keeps of a left term that ended; an unfinished term has no field of its own yet
abbrev pub frame_fields : Frame → ℕ
frame_fields (labelled π l) = 0
frame_fields (sequence_left π u) = 0
frame_fields (sequence_right π s) = fields s
frame_fields (tensor_left π u g) = 0
frame_fields (tensor_right π s g) = fields s
frame_fields (alternation_left π u g) = 0

-- P12, "the count of fields finished and held": those that all waiting terms keep
unfoldable pub held : List Frame → ℕ
held [] = 0
held (f ∷ w) = frame_fields f + held w

-- From the end of a term to the next term to begin, or to the end of the run. "Alternation runs the left; only if that fails does it run the right
-- on the same goals"; "neither 24 nor 22 moves on to an alternative", and 40 is given "with no alternative tried". "Fields of a failed alternative are no longer
-- held": the waiting terms that kept them are gone.
unfoldable pub unwind : Ending → List Frame → Control
unwind e [] = stopped e
unwind e (labelled π l ∷ w) = unwind (in_label (held w) l e) w
unwind (proved s g) (sequence_left π u ∷ w) = running π u g (sequence_right π s ∷ w)
unwind failed (sequence_left π u ∷ w) = unwind failed w
unwind (ended c) (sequence_left π u ∷ w) = unwind (ended c) w
unwind e (sequence_right π s ∷ w) = unwind (after_left (held w) s e) w
unwind (proved s g) (tensor_left π u h ∷ w) = running π u h (tensor_right π s g ∷ w)
unwind failed (tensor_left π u h ∷ w) = unwind failed w
unwind (ended c) (tensor_left π u h ∷ w) = unwind (ended c) w
unwind e (tensor_right π s g ∷ w) = unwind (beside_left (held w) s g e) w
unwind (proved s g) (alternation_left π u h ∷ w) = unwind (proved s g) w
unwind failed (alternation_left π u h ∷ w) = running π u h w
unwind (ended c) (alternation_left π u h ∷ w) = unwind (ended c) w

-- "a term that cannot take its goals .. fails"; else go on with what is there
abbrev pub enter_or_fail : {A : Type 0} → Option A → List Frame → (A → Control) → Control
enter_or_fail none w f = unwind failed w
enter_or_fail (some a) w f = f a

-- what a term does when it begins; "A defined tactic is replaced by its body; one without a definition fails"; "assert leaves id"
unfoldable pub begin : Table → Place → Term → List Goal → List Frame → Control
begin T π (atomic a) g w = unwind (finished (held w) (atomic a) (rule_gives T a g)) w
begin T π id g w = unwind (finished (held w) id (one_goal g)) w
begin T π (label l t) g w = enter_or_fail (one_goal g) w λ h. running (past π 5) t h (labelled (past π 5) l ∷ w)
begin T π (sequence t u) g w = running (past π 3) t g (sequence_left (past π (3 + size t)) u ∷ w)
begin T π (tensor t u) g w = enter_or_fail (split_by (tactic_arity T t) g) w λ p. running (past π 3) t p.left_goals (tensor_left (past π (3 + size t)) u p.right_goals ∷ w)
begin T π empty g w = unwind (finished (held w) empty (no_goal g)) w
begin T π (alternation t u) g w = running (past π 3) t g (alternation_left (past π (3 + size t)) u g ∷ w)
begin T π (assert γ) g w = unwind (finished (held w) id (assert_gives T γ g)) w
begin T π (defined n) g w = enter_or_fail (find_body T n) w λ t. running (record { file = 0; at = body_place T n }) t g w

-- "A step begins one term and leaves the next state. Every term begun counts one step"; where the run has ended it stays.
unfoldable pub step_from : Table → (steps : ℕ) → Control → State
step_from T n (running π t g w) = after (suc n) (begin T π t g w)
step_from T n (stopped e) = after n (stopped e)

unfoldable pub step : Table → State → State
step T σ = step_from T σ.steps σ.control

-- "If a term is to begin when the budget is used up, the run ends with 24": a state that still runs after as many steps as the budget allows.
unfoldable pub run : Table → (budget : ℕ) → State → State
run T zero σ = σ
run T (suc b) σ = run T b (step T σ)

-- the term on its goals, nothing begun
unfoldable pub start : Place → Term → List Goal → State
start π t g = after 0 (running π t g [])
