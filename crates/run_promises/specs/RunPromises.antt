-- Demands 1 and 2 for the entry run, with P12, "Longer runs", as statements about its definition: "run agree[s] with .. deterministic evaluation as document 01 fixes [it], step count included".
use Rattle.std.specs.Prelude.{ℕ, ◌≤◌, ◌<◌, ◌≡◌, ◌⊎◌, List, length}
use Rattle.format.specs.declared.values.Goal.{Goal}
use Rattle.format.specs.Encoding.{Bytes}
use Rattle.format.specs.Results.{gives}
use Rattle.format.specs.Terms.{Term}
use Rattle.tables.specs.Tables.{Table}
use Rattle.tables.specs.ReadTables.{read_table}
use Rattle.files.specs.Jobs.{Job, read_job}
use Rattle.evaluation.specs.Ends.{End, proof, failure, overflow, excess, FewHeld, Ends}
use Rattle.answers.specs.Answers as answer
use Rattle.entries.specs.Run.{run_work, run_tactic}
use Rattle.promises.specs.Accepted.{Accepted}
use Rattle.promises.specs.Ended.{EndsWritten}
use Rattle.promises.specs.Results.{result_of, wrote_after}

-- The answer of a run by how the job's term ends on its goals by the deterministic rules (`Ends`, which has one end at most): with a proof, with failure, with a list over 256,
-- with more fields than may be held, or with none of these within the budget.
pub record RunAnswers (MayHold : ℕ → Type 0) (t f : List ℕ) (b : ℕ) (T : Table) (j : Job) : Type 0 where
  pub proves : (n : ℕ) (s : Term) (h : List Goal) → Ends T MayHold 0 j.goals j.term n (proof s h) → n ≤ b
      → (w o : List ℕ) → run_work ≤ length w → length (result_of j s h) ≤ length o → run_tactic t f b w o ≡ wrote_after n (result_of j s h) w o
  pub fails : (n : ℕ) → Ends T MayHold 0 j.goals j.term n failure → n ≤ b → (w o : List ℕ) → run_work ≤ length w → (run_tactic t f b w o).answer ≡ answer.refusal 23 0 0 n
  pub overflows : (n : ℕ) → Ends T MayHold 0 j.goals j.term n overflow → n ≤ b → (w o : List ℕ) → run_work ≤ length w → (run_tactic t f b w o).answer ≡ answer.refusal 22 0 0 n
  pub exceeds : (n : ℕ) → Ends T MayHold 0 j.goals j.term n excess → n ≤ b → (w o : List ℕ) → run_work ≤ length w → (run_tactic t f b w o).answer ≡ answer.refusal 40 0 0 n
  pub spends : ((n : ℕ) (e : End) → Ends T MayHold 0 j.goals j.term n e → n ≤ b → ⊥) → (w o : List ℕ) → run_work ≤ length w → (run_tactic t f b w o).answer ≡ answer.refusal 24 0 0 b

-- P12: "What a run gives is compared with the rules under this added ending"
abbrev pub Run-answers : Type 0
Run-answers = (t f : List ℕ) (b : ℕ) (T : Table) (j : Job) → b ≤ 16384 → read_table t ≡ gives T → read_job f ≡ gives j → RunAnswers FewHeld t f b T j

-- what a run writes is accepted in the same table, after however many steps
abbrev pub Run-accepted : Type 0
Run-accepted = (t f : List ℕ) → Bytes t → Bytes f → (T : Table) (j : Job) → read_table t ≡ gives T → read_job f ≡ gives j
    → (n : ℕ) (s : Term) (h : List Goal) → Ends T FewHeld 0 j.goals j.term n (proof s h) → Accepted t (result_of j s h)

-- Demand 1: 22, 23, 24 and 40 with the steps, at most the budget and for 40 more than 4,096, or 25 for a budget over 16,384; "file and place 0"
abbrev pub RunRefuses : (budget : ℕ) → (number file place steps : ℕ) → Type 0
RunRefuses b n f q k = (f ≡ 0) × (q ≡ 0) × (((22 ≤ n) × (n ≤ 24) × (k ≤ b)) ⊎ ((n ≡ 40) × (4096 < k) × (k ≤ b)) ⊎ ((n ≡ 25) × (16384 < b) × (k ≡ 0)))

abbrev pub Run-ends : Type 0
Run-ends = (t f : List ℕ) (b : ℕ) (w o : List ℕ) → EndsWritten t f w o run_work (RunRefuses b) (run_tactic t f b w o)

-- P12: "25 starts at 16,385", whatever the files
abbrev pub Run-limit : Type 0
Run-limit = (t f : List ℕ) (b : ℕ) (w o : List ℕ) → run_work ≤ length w → 16384 < b → (run_tactic t f b w o).answer ≡ answer.refusal 25 0 0 0
