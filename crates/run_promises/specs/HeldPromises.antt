-- Document 02, P12, "Longer runs": the count of held fields and the answer 40, as statements about the definitions of run, run_halting and resume.
use Rattle.std.specs.Prelude.{ℕ, ◌+◌, ◌≤◌, ◌<◌, ◌≡◌, List}
use Rattle.format.specs.declared.values.Goal.{Goal}
use Rattle.format.specs.Results.{gives}
use Rattle.format.specs.Terms.{Term, fields}
use Rattle.tables.specs.Tables.{Table}
use Rattle.tables.specs.ReadTables.{read_table}
use Rattle.files.specs.Jobs.{Job, read_job}
use Rattle.evaluation.specs.Ends.{proof, excess, FewHeld, AnyHeld, Ends}
use Rattle.evaluation.specs.Machine.{run}
use Rattle.evaluation.specs.RunSizes.{held_fields}
use Rattle.answers.specs.declared.Answer.{Answer}
use Rattle.lent_frames.specs.declared.LentFrame.{LentFrame}
use Rattle.entries.specs.Run.{begins, run_tactic}
use Rattle.entries.specs.Halting.{steps_of, run_halting, resume_run}
use Rattle.run_promises.specs.RunPromises.{RunAnswers}

-- An answer of a run that may take so many steps: 40 never comes if they are at most 4,096, and has more than 4,096 steps if it comes.
pub record LateExcess (budget : ℕ) (a : Answer) : Type 0 where
  pub never_early : budget ≤ 4096 → a.number ≡ 40 → ⊥
  pub late : a.number ≡ 40 → 4096 < a.steps

abbrev pub Run-late : Type 0
Run-late = (t f : List ℕ) (b : ℕ) (w o : List ℕ) → LateExcess b (run_tactic t f b w o).answer

abbrev pub Halting-late : Type 0
Halting-late = (t f : List ℕ) (b : ℕ) (w : List ℕ) (fs : List LentFrame) (o st : List ℕ) → LateExcess b (run_halting t f b w fs o st).answer

abbrev pub Resume-late : Type 0
Resume-late = (t f s : List ℕ) (c : ℕ) (w : List ℕ) (fs : List LentFrame) (o st : List ℕ) → LateExcess (steps_of s + c) (resume_run t f s c w fs o st).answer

-- "The run's state now keeps the count of fields finished and held": in every state it is at most 4,096 and at most the steps
abbrev pub Held-few : Type 0
Held-few = (T : Table) (j : Job) (b : ℕ) → (held_fields (run T b (begins j)).control ≤ 4096) × (held_fields (run T b (begins j)).control ≤ (run T b (begins j)).steps)

-- and so many term fields has the proof that a run writes
abbrev pub Proof-few : Type 0
Proof-few = (t : List ℕ) (T : Table) → read_table t ≡ gives T → (a s : Term) (g h : List Goal) (n : ℕ) → Ends T FewHeld 0 g a n (proof s h) → (fields s ≤ 4096) × (fields s ≤ n)

-- With a budget of at most 4,096 every answer is as before P12: that of the rules under which any number of fields may be held.
abbrev pub As-before : Type 0
As-before = (t f : List ℕ) (b : ℕ) (T : Table) (j : Job) → b ≤ 4096 → read_table t ≡ gives T → read_job f ≡ gives j → RunAnswers AnyHeld t f b T j

-- They have no end for 40.
abbrev pub Before-none : Type 0
Before-none = (T : Table) (a : Term) (g : List Goal) (n : ℕ) → Ends T AnyHeld 0 g a n excess → ⊥
