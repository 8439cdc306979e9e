-- Every place that a run names is in one of its two files, the table or the job: kept by unwinding, by a beginning and so by a step.
-- Assumes nothing.
use Prim.Native.Nat.{ℕ, zero, suc, ◌+◌, ◌≤◌}
use mathlib.Core.Path.{◌≡◌, subst}
use mathlib.Core.List.{List, [], ◌∷◌}
use mathlib.Core.Option.{Option, none, some}
use native.Mathlib.Omega.{arith}
use Rattle.format.specs.declared.values.Goal.{Goal}
use Rattle.format.specs.Terms.{Term, atomic, id, label, sequence, tensor, empty, alternation, assert, defined, size}
use Rattle.tables.specs.Tables.{Table}
use Rattle.tables.specs.Lookup.{find_body}
use Rattle.tables.specs.Places.{body_place}
use Rattle.evaluation.specs.TacticArity.{tactic_arity}
use Rattle.evaluation.specs.Outcomes.{Ending, proved, failed, ended, rule_gives, one_goal, no_goal, assert_gives, split_by, finished, in_label, after_left, beside_left}
use Rattle.evaluation.specs.Machine.{held, Place, past, Frame, labelled, sequence_left, sequence_right, tensor_left, tensor_right, alternation_left, Control, running, stopped, State, after, unwind, enter_or_fail, begin, step_from, step, run, start}
use Rattle.saver.specs.Save.{InFiles}

abbrev KnownFiles : Control → Type 0
KnownFiles (running π t g k) = (π.file ≤ 1) × InFiles k
KnownFiles (stopped e) = Unit {0}

unwind_files : (e : Ending) (k : List Frame) → InFiles k → KnownFiles (unwind e k)
unfolding unwind InFiles
unwind_files e [] h = tt
unwind_files e (labelled π l ∷ k) h = unwind_files (in_label (held k) l e) k h.1
unwind_files (proved s g) (sequence_left π u ∷ k) h = (h.0, (h.0, h.1))
unwind_files failed (sequence_left π u ∷ k) h = unwind_files failed k h.1
unwind_files (ended c) (sequence_left π u ∷ k) h = unwind_files (ended c) k h.1
unwind_files e (sequence_right π s ∷ k) h = unwind_files (after_left (held k) s e) k h.1
unwind_files (proved s g) (tensor_left π u j ∷ k) h = (h.0, (h.0, h.1))
unwind_files failed (tensor_left π u j ∷ k) h = unwind_files failed k h.1
unwind_files (ended c) (tensor_left π u j ∷ k) h = unwind_files (ended c) k h.1
unwind_files e (tensor_right π s g ∷ k) h = unwind_files (beside_left (held k) s g e) k h.1
unwind_files (proved s g) (alternation_left π u j ∷ k) h = unwind_files (proved s g) k h.1
unwind_files failed (alternation_left π u j ∷ k) h = (h.0, h.1)
unwind_files (ended c) (alternation_left π u j ∷ k) h = unwind_files (ended c) k h.1

-- fail, or go on in a file that is known
enter_files : {A : Type 0} (o : Option A) (k : List Frame) (f : A → Control) → InFiles k → ((a : A) → KnownFiles (f a)) → KnownFiles (enter_or_fail o k f)
enter_files none k f h i = unwind_files failed k h
enter_files (some a) k f h i = i a

begin_files : (T : Table) (π : Place) (t : Term) (g : List Goal) (k : List Frame) → π.file ≤ 1 → InFiles k → KnownFiles (begin T π t g k)
unfolding begin InFiles
begin_files T π (atomic a) g k p h = unwind_files (finished (held k) (atomic a) (rule_gives T a g)) k h
begin_files T π id g k p h = unwind_files (finished (held k) id (one_goal g)) k h
begin_files T π (label l t) g k p h = enter_files (one_goal g) k (λ j. running (past π 5) t j (labelled (past π 5) l ∷ k)) h (λ j. (p, (p, h)))
begin_files T π (sequence t u) g k p h = (p, (p, h))
begin_files T π (tensor t u) g k p h =
    enter_files (split_by (tactic_arity T t) g) k (λ j. running (past π 3) t j.left_goals (tensor_left (past π (3 + size t)) u j.right_goals ∷ k)) h (λ j. (p, (p, h)))
begin_files T π empty g k p h = unwind_files (finished (held k) empty (no_goal g)) k h
begin_files T π (alternation t u) g k p h = (p, (p, h))
begin_files T π (assert γ) g k p h = unwind_files (finished (held k) id (assert_gives T γ g)) k h
begin_files T π (defined d) g k p h = enter_files (find_body T d) k (λ t. running (record { file = 0; at = body_place T d }) t g k) h (λ t. (omega arith, h))

run_files : (T : Table) (b n : ℕ) (κ : Control) → KnownFiles κ → KnownFiles (run T b (after n κ)).control
unfolding run step step_from
run_files T zero n κ h = h
run_files T (suc b) n (running π t g k) h = run_files T b (suc n) (begin T π t g k) (begin_files T π t g k h.0 h.1)
run_files T (suc b) n (stopped e) h = run_files T b n (stopped e) h

-- of a halted run: the place of the term to begin, and those of the waiting terms
pub halted_files : (T : Table) (b n : ℕ) (π ρ : Place) (t u : Term) (g h : List Goal) (k : List Frame) → π.file ≤ 1 → run T b (start π t g) ≡ after n (running ρ u h k) → (ρ.file ≤ 1) × InFiles k
unfolding start InFiles
halted_files T b n π ρ t u g h k p q = subst (λ (σ : State). KnownFiles σ.control) q (run_files T b 0 (running π t g []) (p, tt))
