-- Document 01, "Running a tactic", and document 02, P12: the entry run.
use Rattle.std.specs.Prelude.{ℕ, cond, List, ltb}
use Rattle.format.specs.Limits.{most_steps}
use Rattle.format.specs.declared.refusals.Cause.TheVariants.{TacticFailed, BudgetSpent, BudgetTooLarge}
use Rattle.tables.specs.Tables.{Table}
use Rattle.tables.specs.ReadTables.{read_table}
use Rattle.files.specs.Proofs.{Proof, proof_bytes}
use Rattle.files.specs.Jobs.{Job, read_job}
use Rattle.files.specs.Counts.{job_term_place}
use Rattle.evaluation.specs.Outcomes.{proved, failed, ended}
use Rattle.evaluation.specs.Machine.{Control, running, stopped, State, run, start}
use Rattle.entries.specs.Outcomes.{Outcome, success, refusal, in_file, table_file, other_file, no_file}
use Rattle.entries.specs.LentSpace.{Written, write_in}

-- "A run that succeeds writes a proof file"; 22, 23, 24 and (P12) 40 with "file and place 0", after so many steps
unfoldable pub run_end : Job → (steps : ℕ) → Control → Outcome (List ℕ)
run_end j n (running π t g k) = refusal BudgetSpent no_file 0 n
run_end j n (stopped (proved s h)) = success (proof_bytes (record { goals = j.goals; term = s; remaining = h })) n
run_end j n (stopped failed) = refusal TacticFailed no_file 0 n
run_end j n (stopped (ended c)) = refusal c no_file 0 n

-- the outcome is read off the state in which the run ends
unfoldable pub run_result : Job → State → Outcome (List ℕ)
run_result j σ = run_end j σ.steps σ.control

-- the job's term on its goals, nothing begun
abbrev pub begins : Job → State
begins j = start (record { file = 1; at = job_term_place j }) j.term j.goals

-- "29, then 25, come before any reading"
unfoldable pub run_outcome : (table job : List ℕ) → (budget : ℕ) → Outcome (List ℕ)
run_outcome table job budget =
    cond (ltb most_steps budget) (refusal BudgetTooLarge no_file 0 0)
    (in_file table_file (read_table table) (λ T.
    in_file other_file (read_job job) (λ j.
    run_result j (run T budget (begins j)))))

-- the size of the work space that docs/ENTRIES.md names: all that a run of the most steps can use
abbrev pub run_work : ℕ
run_work = 590848

unfoldable pub run_tactic : (table job : List ℕ) → (budget : ℕ) → (work out : List ℕ) → Written
run_tactic table job budget work out = write_in run_work work out (run_outcome table job budget)
