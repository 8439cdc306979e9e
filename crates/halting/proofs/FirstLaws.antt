-- The first run: by the budget, by how the files read, and by the last state.
-- Assumes nothing.
use Prim.Native.Nat.{ℕ, ◌≤◌, ◌<◌}
use mathlib.Core.Path.{◌≡◌}
use mathlib.Core.List.{List}
use Rattle.format.specs.Limits.{most_steps}
use Rattle.format.specs.declared.refusals.Cause.TheVariants.{BudgetTooLarge}
use Rattle.format.specs.Refusals.{number}
use Rattle.answers.specs.declared.Answer.{Answer}
use Rattle.answers.specs.Answers as said
use Rattle.entries.specs.Halting.{ran_for, halting_outcome}
use Rattle.entries.proofs.HaltingLaws.{both_read}
use Rattle.tactics.specs.Entry.{FilesRefused}
use Rattle.machine.specs.declared.state.State.{State}
use Rattle.runner.specs.LastState.{Reached}
use Rattle.halting.specs.declared.halted.Halted.{Halted}
use Rattle.halting.specs.Halted.{refused_call, Answered, Comes}
use Rattle.halting.proofs.ComesLaws.{limit_refuses, files_refuse, refusal_comes, run_comes}

module _ (t s : List ℕ) (b : ℕ) (out : List ℕ) (h : Halted) where
  pub limit_end : (v : List ℕ) (a : Answer) → most_steps < b → a ≡ said.refusal (number BudgetTooLarge) 0 0 0 → h ≡ refused_call a → Comes (halting_outcome t s b) out v h out
  unfolding halting_outcome
  limit_end v a l q e = refusal_comes (halting_outcome t s b) v out a h (limit_refuses t s b (λ T j. ran_for T j b) a l q) e

  module _ (fits : b ≤ most_steps) (v : List ℕ) where
    pub files_end : (a : Answer) → FilesRefused t s a → h ≡ refused_call a → Comes (halting_outcome t s b) out v h out
    unfolding halting_outcome
    files_end a f e = refusal_comes (halting_outcome t s b) v out a h (files_refuse t s b (λ T j. ran_for T j b) fits a f) e

    pub run_end : (x : State) (first term : ℕ) (u : List ℕ) → Reached t s b v x first term → Answered x s v out h u → Comes (halting_outcome t s b) out v h u
    unfolding halting_outcome
    run_end x first term u q a =
        run_comes t s b v x first term q fits (halting_outcome t s b) (both_read t s b (λ T j. ran_for T j b) fits q.table q.job q.table_reads q.job_reads) out h u a
