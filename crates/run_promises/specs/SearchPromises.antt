-- Document 02, P13, "Free choice with a way back", for the entry search, as statements about its definition.
use Rattle.std.specs.Prelude.{ℕ, ◌≤◌, ◌<◌, ◌≡◌, ◌↔◌, ◌⊎◌, List, length}
use Rattle.format.specs.declared.values.Goal.{Goal}
use Rattle.format.specs.Encoding.{Bytes}
use Rattle.format.specs.Results.{gives}
use Rattle.format.specs.Terms.{Term}
use Rattle.tables.specs.Tables.{Table}
use Rattle.tables.specs.ReadTables.{read_table}
use Rattle.files.specs.Jobs.{Job, read_job}
use Rattle.search.specs.Events.{Event, FoundIn, First}
use Rattle.search.specs.Trace.{trace}
use Rattle.search.specs.EvaluatesWithin.{EvaluatesWithin}
use Rattle.answers.specs.Answers as answer
use Rattle.entries.specs.Search.{search_work, search_tactic}
use Rattle.promises.specs.Accepted.{Accepted}
use Rattle.promises.specs.Ended.{EndsWritten}
use Rattle.promises.specs.Results.{result_of, wrote_after}

-- what the search for a job's evaluations does, one event after the other
abbrev pub events_of : Table → (height : ℕ) → Job → List Event
events_of T h j = trace T h j.term j.goals

-- "looks for any evaluation by the big-step rules at most h rules high with every list at most 256 goals": the search finds exactly these
abbrev pub Search-finds : Type 0
Search-finds = (t f : List ℕ) (T : Table) (j : Job) → read_table t ≡ gives T → read_job f ≡ gives j → (h : ℕ) (s : Term) (k : List Goal)
    → FoundIn (events_of T h j) s k ↔ EvaluatesWithin T h j.goals j.term s k

-- "no such evaluation exists"
abbrev pub NoEvaluation : Table → (height : ℕ) → Job → Type 0
NoEvaluation T h j = (s : Term) (k : List Goal) → EvaluatesWithin T h j.goals j.term s k → ⊥

-- The answer of a search, in a work space that is long enough: the first evaluation of its events is written, with its steps, if they are within the budget;
-- 41 exactly if there is none and that is known within the budget, with all steps; 24 exactly "if the budget ends before either is known", with the budget as steps.
-- Without an evaluation every event is a beginning, so that there are as many steps as events.
pub record SearchAnswers (t f : List ℕ) (h b : ℕ) (T : Table) (j : Job) (w o : List ℕ) : Type 0 where
  pub writes : (n : ℕ) (s : Term) (k : List Goal) → First (events_of T h j) n s k → n ≤ b → length (result_of j s k) ≤ length o → search_tactic t f h b w o ≡ wrote_after n (result_of j s k) w o
  pub no_room : (n : ℕ) (s : Term) (k : List Goal) → First (events_of T h j) n s k → n ≤ b → length o < length (result_of j s k) → (search_tactic t f h b w o).answer ≡ answer.refusal 26 0 0 n
  pub only : (search_tactic t f h b w o).answer.number ≡ 0
      → (n : ℕ) × (s : Term) × (k : List Goal) × First (events_of T h j) n s k × (n ≤ b) × (length (result_of j s k) ≤ length o)
  pub none_exists : (n : ℕ) → ((search_tactic t f h b w o).answer ≡ answer.refusal 41 0 0 n) ↔ (NoEvaluation T h j × (length (events_of T h j) ≡ n) × (n ≤ b))
  pub budget_ends : (n : ℕ) → ((search_tactic t f h b w o).answer ≡ answer.refusal 24 0 0 n)
      ↔ ((n ≡ b) × ((m : ℕ) (s : Term) (k : List Goal) → First (events_of T h j) m s k → b < m) × (NoEvaluation T h j → b < length (events_of T h j)))

abbrev pub Search-answers : Type 0
Search-answers = (t f : List ℕ) (T : Table) (j : Job) → read_table t ≡ gives T → read_job f ≡ gives j → (h b : ℕ) → 1 ≤ h → h ≤ 64 → b ≤ 4096
    → (w o : List ℕ) → search_work ≤ length w → SearchAnswers t f h b T j w o

-- "A found proof obeys the big-step rules"
abbrev pub Search-obeys : Type 0
Search-obeys = (t f : List ℕ) (T : Table) (j : Job) → read_table t ≡ gives T → read_job f ≡ gives j
    → (h n : ℕ) (s : Term) (k : List Goal) → First (events_of T h j) n s k → EvaluatesWithin T h j.goals j.term s k

-- "validates and flattens like any other": what is written is accepted in the same table, and the promises of flatten are about accepted proofs
abbrev pub Search-accepted : Type 0
Search-accepted = (t f : List ℕ) → Bytes t → Bytes f → (T : Table) (j : Job) → read_table t ≡ gives T → read_job f ≡ gives j
    → (h n : ℕ) (s : Term) (k : List Goal) → First (events_of T h j) n s k → n ≤ 4096 → Accepted t (result_of j s k)

-- "takes a height h, 1 to 64, and a budget up to 4,096"
abbrev pub Outside : (height : ℕ) → Type 0
Outside h = (h < 1) ⊎ (64 < h)

-- "else 25"; "42, a height outside 1 to 64, tested after 25": whatever the files
pub record SearchLimits (t f : List ℕ) (h b : ℕ) (w o : List ℕ) : Type 0 where
  pub budget : 4096 < b → (search_tactic t f h b w o).answer ≡ answer.refusal 25 0 0 0
  pub height : b ≤ 4096 → Outside h → (search_tactic t f h b w o).answer ≡ answer.refusal 42 0 0 0

abbrev pub Search-limits : Type 0
Search-limits = (t f : List ℕ) (h b : ℕ) (w o : List ℕ) → search_work ≤ length w → SearchLimits t f h b w o

-- Demand 1: "Refused, file and place 0: 41 .. 42 .. 24", and 25; 25 and 42 only where they are due; 22, 23 and 40 are not among them
pub data SearchRefuses (h b : ℕ) : (number file place steps : ℕ) → Type 0 where
  none_exists : (k : ℕ) → k ≤ b → b ≤ 4096 → (Outside h → ⊥) → SearchRefuses h b 41 0 0 k
  budget_ends : b ≤ 4096 → (Outside h → ⊥) → SearchRefuses h b 24 0 0 b
  budget_large : 4096 < b → SearchRefuses h b 25 0 0 0
  outside_heights : b ≤ 4096 → Outside h → SearchRefuses h b 42 0 0 0

abbrev pub Search-ends : Type 0
Search-ends = (t f : List ℕ) (h b : ℕ) (w o : List ℕ) → EndsWritten t f w o search_work (SearchRefuses h b) (search_tactic t f h b w o)
