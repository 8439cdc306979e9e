-- Document 02, P13, "Free choice with a way back": the entry search.
use Rattle.std.specs.Prelude.{ℕ, cond, List, ltb}
use Rattle.format.specs.Limits.{least_height, most_height, most_search_steps}
use Rattle.format.specs.declared.refusals.Cause.TheVariants.{BudgetSpent, BudgetTooLarge, NoEvaluation, HeightOutside}
use Rattle.tables.specs.ReadTables.{read_table}
use Rattle.files.specs.Proofs.{proof_bytes}
use Rattle.files.specs.Jobs.{Job, read_job}
use Rattle.search.specs.Answer.{Searched, proved, exhausted, spent, search}
use Rattle.entries.specs.Outcomes.{Outcome, success, refusal, in_file, table_file, other_file, no_file}
use Rattle.entries.specs.LentSpace.{Written, write_in}

-- the proof file of the evaluation that was found, as a run writes it; "Refused, file and place 0: 41 .. 24 if the budget ends before either is known", after so many steps
unfoldable pub search_end : Job → Searched → Outcome (List ℕ)
search_end j (proved s h n) = success (proof_bytes (record { goals = j.goals; term = s; remaining = h })) n
search_end j (exhausted n) = refusal NoEvaluation no_file 0 n
search_end j (spent n) = refusal BudgetSpent no_file 0 n

-- "a budget up to 4,096, else 25"; "42, a height outside 1 to 64, tested after 25"; both before any reading
unfoldable pub search_outcome : (table job : List ℕ) → (height budget : ℕ) → Outcome (List ℕ)
search_outcome table job height budget =
    cond (ltb most_search_steps budget) (refusal BudgetTooLarge no_file 0 0)
    (cond (ltb height least_height) (refusal HeightOutside no_file 0 0)
    (cond (ltb most_height height) (refusal HeightOutside no_file 0 0)
    (in_file table_file (read_table table) (λ T.
    in_file other_file (read_job job) (λ j.
    search_end j (search T height budget j.term j.goals))))))

-- the size of the work space that docs/ENTRIES.md names: all that a search of the most steps can use
abbrev pub search_work : ℕ
search_work = 2496256

unfoldable pub search_tactic : (table job : List ℕ) → (height budget : ℕ) → (work out : List ℕ) → Written
search_tactic table job height budget work out = write_in search_work work out (search_outcome table job height budget)
