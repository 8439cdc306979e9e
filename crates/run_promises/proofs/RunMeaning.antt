-- What the answers of run mean: by the theorems of hitac about the machine, the deterministic rules and Fig. 3; a table that reads has no two rules of one
-- name and goal and no tactic with two bodies, which is what they ask of it. A larger budget: a run that has ended stays as it is.
-- Assumes nothing.
use Prim.Native.Nat.{ℕ, ◌≤◌, ◌<◌}
use native.Mathlib.Omega.{arith}
use native.Mathlib.Decide.{dec_lt}
use mathlib.Core.Path.{◌≡◌, refl, sym, ap, ◌∙◌}
use mathlib.Core.List.{List}
use lib.ListN.{length}
use borrow.Author.Tests.{lt-ltb, le-ltb}
use Rattle.format.specs.Limits.{most_steps}
use Rattle.format.specs.Results.{Result, gives, refused}
use Rattle.tables.specs.Tables.{Table}
use Rattle.tables.specs.ReadTables.{read_table}
use Rattle.tables.proofs.ReadsTable.{reads_unique_rules, reads_unique_definitions}
use Rattle.files.specs.Jobs.{Job, read_job}
use Rattle.format.specs.declared.refusals.Cause.TheVariants.{BudgetSpent}
use Rattle.format.specs.Refusals.{number}
use Rattle.answers.specs.declared.Answer as answer
use Rattle.evaluation.specs.Machine.{Control, running, stopped, State, after, run, start}
use Rattle.evaluation.proofs.ArityMeaning.{arity↔computed}
use Rattle.evaluation.proofs.BigStep.{ends_evaluates, ends_evaluates_freely}
use Rattle.evaluation.proofs.MachineMeaning.{one_end}
use Rattle.evaluation.proofs.RunLaws.{more_budget}
use Rattle.entries.specs.LentSpace.{Written, write_out, write_in}
use Rattle.entries.specs.Run.{begins, run_result, run_outcome, run_work, run_tactic}
use Rattle.run_promises.specs.RunMeaning as meaning
use Rattle.run_promises.proofs.RunPromises.{outcome, still_running, answer_of, table_refused, job_refused}

pub one_end_of_a_run : meaning.One-end
one_end_of_a_run t T e a g n m x y r r' = one_end T (reads_unique_rules t T e) (reads_unique_definitions t T e) (record { file = 0; at = 0 }) a g r r'

pub run_evaluates : meaning.Run-evaluates
run_evaluates T a s g h n r = (ends_evaluates r, ends_evaluates_freely r)

pub arity_is : meaning.Arity-is
arity_is t T e = arity↔computed T (reads_unique_definitions t T e)

module _ (t f : List ℕ) (b c : ℕ) (h : b ≤ c) (l : c ≤ most_steps) (w o : List ℕ) where
  -- within one work space the outcome decides
  same_outcome : run_outcome t f c ≡ run_outcome t f b → run_tactic t f c w o ≡ run_tactic t f b w o
  unfolding run_tactic
  same_outcome q = ap (write_in run_work w o) q

  -- 29, whatever the budget
  short_of_space : length w < run_work → run_tactic t f c w o ≡ run_tactic t f b w o
  unfolding run_tactic write_in
  short_of_space k = rw (lt-ltb (length w) run_work k)

  module _ (enough : run_work ≤ length w) (unspent : (run_tactic t f b w o).answer.number ≡ 24 → ⊥) where
    -- a run that has ended stays; one that has not is 24
    module _ (T : Table) (j : Job) (e : read_table t ≡ gives T) (g : read_job f ≡ gives j) where
      abbrev σ : State
      σ = run T b (begins j)

      by_control : (κ : Control) → σ.control ≡ κ → run_outcome t f c ≡ run_outcome t f b
      unfolding run_result number
      by_control (stopped x) q =
          let r : σ ≡ after σ.steps (stopped x) = ap (after σ.steps) q in
          let s = more_budget T b c (begins j) σ.steps x r h in
          outcome t f c T j l e g ∙ ap (run_result j) (s ∙ sym r) ∙ sym (outcome t f b T j (omega arith) e g)
      by_control (running π a k v) q =
          let p = outcome t f b T j (omega arith) e g ∙ ap (run_result j) (ap (after σ.steps) q) in
          let r = p ∙ still_running t f b T j (omega arith) e g (running π a k v) tt σ.steps in
          let spent = answer_of t f b T j (omega arith) e g w o enough BudgetSpent σ.steps r in
          absurd (unspent (ap (λ (x : answer.Answer). x.number) spent))

    by_job : (T : Table) → read_table t ≡ gives T → (r : Result Job) → read_job f ≡ r → run_outcome t f c ≡ run_outcome t f b
    by_job T e (gives j) g = by_control T j e g (σ T j e g).control refl
    by_job T e (refused x q) g = job_refused t f c l T x q e g ∙ sym (job_refused t f b (omega arith) T x q e g)

    by_table : (r : Result Table) → read_table t ≡ r → run_outcome t f c ≡ run_outcome t f b
    by_table (gives T) e = by_job T e (read_job f) refl
    by_table (refused x q) e = table_refused t f c l x q e ∙ sym (table_refused t f b (omega arith) x q e)

  by_space : ((run_tactic t f b w o).answer.number ≡ 24 → ⊥) → Dec (length w < run_work) → run_tactic t f c w o ≡ run_tactic t f b w o
  by_space unspent (yes k) = short_of_space k
  by_space unspent (no k) = same_outcome (by_table (omega arith) unspent (read_table t) refl)

pub more_budget_same_answer : meaning.More-budget
more_budget_same_answer t f b c w o h l unspent = by_space t f b c h l w o unspent (dec_lt (length w) run_work)
