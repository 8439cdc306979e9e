-- The entry: the budget, and how the files read, say which case of the entry's definition holds.
-- Assumes nothing.
use Prim.Native.Nat.{ℕ, ◌≤◌, ◌<◌}
use mathlib.Core.Path.{◌≡◌, refl, sym, ap, ◌∙◌}
use mathlib.Core.List.{List}
use borrow.Author.Tests.{lt-ltb, le-ltb}
use Rattle.format.specs.Limits.{most_steps}
use Rattle.format.specs.declared.refusals.Cause.TheVariants.{BudgetTooLarge}
use Rattle.format.specs.Refusals.{number}
use Rattle.tables.specs.Tables.{Table}
use Rattle.files.specs.Jobs.{Job}
use Rattle.evaluation.specs.Machine as M
use Rattle.answers.specs.declared.Answer.{Answer}
use Rattle.answers.specs.Answers as said
use Rattle.entries.specs.Outcomes.{Outcome, refusal, no_file}
use Rattle.entries.specs.LentSpace.{Written}
use Rattle.entries.specs.Run.{begins, run_result, run_outcome}
use Rattle.entries.specs.Left.{kept, left_in}
use Rattle.entries.proofs.LeftLaws.{refuses}
use Rattle.tactics.specs.Entry.{on_job, FilesRefused}
use Rattle.tactics.proofs.EntryLaws.{both_outcome, refused_end}
use Rattle.machine.specs.declared.state.State.{State}
use Rattle.runner.specs.Jobs.{Finishes}
use Rattle.runner.specs.LastState.{Reached}
use Rattle.runner.proofs.LastLaws.{finish_end}

-- what follows the reading
abbrev runs : (budget : ℕ) → Table → Job → Outcome (List ℕ)
runs b T j = run_result j (M.run T b (begins j))

module _ (t s : List ℕ) (b : ℕ) where
  too_large : most_steps < b → run_outcome t s b ≡ refusal BudgetTooLarge no_file 0 0
  unfolding run_outcome
  too_large h = rw (lt-ltb most_steps b h)

  pub too_large_end : (o : List ℕ) (r : Answer) → most_steps < b → r ≡ said.refusal (number BudgetTooLarge) 0 0 0 → kept r o ≡ left_in o (run_outcome t s b)
  too_large_end o r h q = refuses BudgetTooLarge (number BudgetTooLarge) no_file 0 0 r o refl q ∙ ap (left_in o) (sym (too_large h))

  module _ (fits : b ≤ most_steps) where
    small_enough : run_outcome t s b ≡ on_job t s (runs b)
    unfolding run_outcome
    small_enough = rw (le-ltb most_steps b fits)

    -- within the limit, what the reading leaves is what the entry leaves
    read_end : (o : List ℕ) (x : Written) → x ≡ left_in o (on_job t s (runs b)) → x ≡ left_in o (run_outcome t s b)
    read_end o x e = e ∙ ap (left_in o) (sym small_enough)

    -- a file was refused
    pub files_end : (o : List ℕ) (r : Answer) → FilesRefused t s r → kept r o ≡ left_in o (run_outcome t s b)
    files_end o r h = read_end o (kept r o) (refused_end t s (runs b) o r h)

    -- the last state was reached
    pub last_end : (w : List ℕ) (x : State) (first term : ℕ) → Reached t s b w x first term → (o : List ℕ) (r : Answer) (v : List ℕ) → Finishes s w x o r v → kept r v ≡ left_in o (run_outcome t s b)
    last_end w x first term q o r v h =
        read_end o (kept r v) (finish_end t s b w x first term q o r v h ∙ ap (left_in o) (sym (both_outcome t s (runs b) q.table q.job q.table_reads q.job_reads)))
