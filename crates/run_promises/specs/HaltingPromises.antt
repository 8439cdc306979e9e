-- Document 02, P1, "Stepping for the debugger", and P12, "Longer runs", for the entry run_halting, as statements about its definition.
use Rattle.std.specs.Prelude.{ℕ, ◌-◌, ◌≤◌, ◌≡◌, List, [], ◌++◌, length, drop, replicate}
use Rattle.format.specs.declared.values.Goal.{Goal}
use Rattle.format.specs.Results.{gives}
use Rattle.format.specs.Terms.{Term}
use Rattle.tables.specs.Tables.{Table}
use Rattle.tables.specs.ReadTables.{read_table}
use Rattle.files.specs.Counts.{job_term_place}
use Rattle.files.specs.Jobs.{Job, read_job}
use Rattle.evaluation.specs.Machine.{Place, Frame, running, after, run}
use Rattle.answers.specs.Answers as answer
use Rattle.lent_frames.specs.declared.LentFrame.{LentFrame}
use Rattle.lent_frames.specs.Frames.{no_frame}
use Rattle.entries.specs.Run.{begins, run_tactic}
use Rattle.entries.specs.SavedState.{saved_size, saved_contents}
use Rattle.entries.specs.Halting.{halting_work, most_frames, Halting, run_halting}
use Rattle.promises.specs.Ended.{EndedWriting, Result}
use Rattle.run_promises.specs.RunPromises.{RunRefuses}

-- each lent space for which docs/ names a size is long enough; "shorter is 29"
abbrev pub Enough : (work : List ℕ) → List LentFrame → (state : List ℕ) → Type 0
Enough w fs st = (751116 ≤ length w) × (16384 ≤ length fs) × (160268 ≤ length st)

-- after 29: everything as it was
abbrev pub untouched : (work : List ℕ) → List LentFrame → (out state : List ℕ) → Halting
untouched w fs o st = record { answer = answer.refusal 29 0 0 0; work = w; frames = fs; out = o; state = st }

-- "A halt is 24 as before": answer, work space and output space are those of the entry run, whatever it comes to
abbrev pub Halts-as-run : Type 0
Halts-as-run = (t f : List ℕ) (b : ℕ) (w : List ℕ) (fs : List LentFrame) (o st : List ℕ) → Enough w fs st
    → ((run_halting t f b w fs o st).answer ≡ (run_tactic t f b w o).answer) × ((run_halting t f b w fs o st).work ≡ (run_tactic t f b w o).work) × ((run_halting t f b w fs o st).out ≡ (run_tactic t f b w o).out)

-- A run that has not ended after n steps: the term to begin, its goals, and the terms that wait, innermost first.
pub record HaltsAfter (t f : List ℕ) (n : ℕ) : Type 0 where
  pub table : Table
  pub job : Job
  pub table_read : read_table t ≡ gives table
  pub job_read : read_job f ≡ gives job
  pub place : Place
  pub term : Term
  pub goals : List Goal
  pub waiting : List Frame
  pub stands : run table n (begins job) ≡ after n (running place term goals waiting)

-- "in a layout given in docs/: its step count, the fields finished so far, and the waiting terms"
abbrev pub contents_of : {t f : List ℕ} {n : ℕ} → HaltsAfter t f n → List ℕ
contents_of {n = n} x = saved_contents n x.place x.goals x.waiting

-- "its state fills the first bytes, as many as docs/ names, of a second space .., zeros last and bytes past them untouched"
abbrev pub state_of : (contents state : List ℕ) → List ℕ
state_of c st = c ++ replicate (saved_size - length c) 0 ++ drop saved_size st

-- "as many as docs/ names" are enough, for every run that halts within the limit of steps
abbrev pub State-size : Type 0
State-size = (t f : List ℕ) (n : ℕ) → n ≤ 16384 → (x : HaltsAfter t f n) → length (contents_of x) ≤ 160268

-- what a halt with these bytes leaves: 24 with its steps, work space and frames all zero, the output space untouched, and the state
abbrev pub halted_after : (steps : ℕ) → (contents : List ℕ) → (work : List ℕ) → List LentFrame → (out state : List ℕ) → Halting
halted_after n c w fs o st = record { answer = answer.refusal 24 0 0 n; work = replicate (length w) 0; frames = replicate (length fs) no_frame; out = o; state = state_of c st }

-- A run that has not ended after its budget is such a halt.
abbrev pub Halting-halts : Type 0
Halting-halts = (t f : List ℕ) (b : ℕ) (w : List ℕ) (fs : List LentFrame) (o st : List ℕ) → Enough w fs st → b ≤ 16384 → (x : HaltsAfter t f b)
    → run_halting t f b w fs o st ≡ halted_after b (contents_of x) w fs o st

-- "A halt is 24 ..; no other answer touches it."
pub record WritesState (t f : List ℕ) (n : ℕ) (w : List ℕ) (fs : List LentFrame) (o st : List ℕ) (c : Halting) : Type 0 where
  pub fills : c.answer.number ≡ 24 → (x : HaltsAfter t f n) × (c ≡ halted_after n (contents_of x) w fs o st)
  pub keeps : (c.answer.number ≡ 24 → ⊥) → c.state ≡ st

abbrev pub Halting-writes : Type 0
Halting-writes = (t f : List ℕ) (b : ℕ) (w : List ℕ) (fs : List LentFrame) (o st : List ℕ) → WritesState t f b w fs o st (run_halting t f b w fs o st)

-- "A budget of 0 halts before the first term": the job's term is to begin, on its goals, and nothing waits
abbrev pub first_contents : Job → List ℕ
first_contents j = saved_contents 0 (record { file = 1; at = job_term_place j }) j.goals []

abbrev pub Zero-halts : Type 0
Zero-halts = (t f : List ℕ) (T : Table) (j : Job) → read_table t ≡ gives T → read_job f ≡ gives j → (w : List ℕ) (fs : List LentFrame) (o st : List ℕ) → Enough w fs st
    → run_halting t f 0 w fs o st ≡ halted_after 0 (first_contents j) w fs o st

-- Demand 1: one of the answers of a call that writes; the work space and the frames are all zero afterwards, and after 29, which is the answer exactly if a lent
-- space is short, all of them are untouched; "A refusal leaves output space untouched; a success leaves the bytes past its result untouched."
pub record EndsHalting (t f w : List ℕ) (fs : List LentFrame) (o st : List ℕ) (Own : (number file place steps : ℕ) → Type 0) (c : Halting) : Type 0 where
  pub answers : EndedWriting t f Own c.answer
  pub clears : Enough w fs st → (c.work ≡ replicate (length w) 0) × (c.frames ≡ replicate (length fs) no_frame) × (c.answer.number ≡ 29 → ⊥)
  pub keeps : (Enough w fs st → ⊥) → c ≡ untouched w fs o st
  pub refused : (c.answer.number ≡ 0 → ⊥) → (c.out ≡ o) × (c.answer.length ≡ 0)
  pub succeeded : c.answer.number ≡ 0 → Result o (record { answer = c.answer; work = c.work; out = c.out })

abbrev pub Halting-ends : Type 0
Halting-ends = (t f : List ℕ) (b : ℕ) (w : List ℕ) (fs : List LentFrame) (o st : List ℕ) → EndsHalting t f w fs o st (RunRefuses b) (run_halting t f b w fs o st)

-- P14: "any machine answer other than 24 under budget b is the answer, bytes and steps included, under every larger budget allowed"
abbrev pub More-budget-halting : Type 0
More-budget-halting = (t f : List ℕ) (b c : ℕ) (w : List ℕ) (fs : List LentFrame) (o st : List ℕ) → b ≤ c → c ≤ 16384 → ((run_halting t f b w fs o st).answer.number ≡ 24 → ⊥)
    → run_halting t f c w fs o st ≡ run_halting t f b w fs o st
