-- Document 02, P1, "Stepping for the debugger", and P12, "Longer runs", for the entry resume, as statements about its definition.
use Rattle.std.specs.Prelude.{ℕ, ◌+◌, ◌*◌, ◌≤◌, ◌<◌, ◌≡◌, ◌↔◌, ◌⊎◌, true, List, ◌∷◌, length, take, replicate}
use Rattle.format.specs.declared.refusals.Cause.{Cause}
use Rattle.format.specs.Refusals.{number}
use Rattle.format.specs.Results.{gives, refused}
use Rattle.tables.specs.Tables.{Table}
use Rattle.tables.specs.ReadTables.{read_table}
use Rattle.files.specs.Jobs.{Job, read_job}
use Rattle.answers.specs.Answers as answer
use Rattle.lent_frames.specs.declared.LentFrame.{LentFrame}
use Rattle.lent_frames.specs.Frames.{no_frame}
use Rattle.entries.specs.SavedState.{saved_size}
use Rattle.entries.specs.Halting.{steps_of, genuine, Halting, run_halting, resume_run}
use Rattle.run_promises.specs.RunPromises.{RunRefuses}
use Rattle.run_promises.specs.HaltingPromises.{Enough, WritesState, EndsHalting}

-- "b being 0 if the state is too short to hold it": b stands in the first two bytes, the high one first
abbrev pub Steps-of : Type 0
Steps-of = (s : List ℕ) → (length s < 2 → steps_of s ≡ 0) × ((x y : ℕ) → steps_of (x ∷ y ∷ s) ≡ x * 256 + y)

-- "A saved state counts as genuine exactly if the same table and job, run for its step count, halt with those bytes."
abbrev pub Genuine-is : Type 0
Genuine-is = (t f s : List ℕ) (T : Table) (j : Job) → read_table t ≡ gives T → read_job f ≡ gives j → steps_of s ≤ 16384
    → (w : List ℕ) (fs : List LentFrame) (o st : List ℕ) → Enough w fs st
    → (genuine T j s ≡ true) ↔ (((run_halting t f (steps_of s) w fs o st).answer.number ≡ 24) × (take saved_size (run_halting t f (steps_of s) w fs o st).state ≡ s))

-- "Going on with budget c after a halt at b gives the answer of a single run with b + c, step count included, as long as b + c is at most" 16,384 (P12: "also
-- for the sum in P1"): all of the answer, and every byte of every lent space
abbrev pub Goes_on : Type 0
Goes_on = (t f : List ℕ) (b c : ℕ) → b + c ≤ 16384 → (w : List ℕ) (fs : List LentFrame) (o st : List ℕ) → (run_halting t f b w fs o st).answer.number ≡ 24
    → (w' : List ℕ) (fs' : List LentFrame) (o' st' : List ℕ) → resume_run t f (take saved_size (run_halting t f b w fs o st).state) c w' fs' o' st' ≡ run_halting t f (b + c) w' fs' o' st'

-- "Refused: 30, a saved state of another size or not genuine", if 29 and 25 do not apply and both files are read, and only then
abbrev pub Not-genuine : Type 0
Not-genuine = (t f s : List ℕ) (c : ℕ) (w : List ℕ) (fs : List LentFrame) (o st : List ℕ) → ((resume_run t f s c w fs o st).answer.number ≡ 30)
    ↔ (Enough w fs st × (steps_of s + c ≤ 16384) × ((T : Table) × (j : Job) × (read_table t ≡ gives T) × (read_job f ≡ gives j) × (genuine T j s ≡ true → ⊥)))

-- a state of another size is not genuine
abbrev pub Other-size : Type 0
Other-size = (t f s : List ℕ) (T : Table) (j : Job) → read_table t ≡ gives T → read_job f ≡ gives j → steps_of s ≤ 16384 → genuine T j s ≡ true → length s ≡ saved_size

-- a refusal without any step: the work space and the frames are all zero, the output space and the second space untouched
abbrev pub refused_as : (number file place : ℕ) → (work : List ℕ) → List LentFrame → (out state : List ℕ) → Halting
refused_as n file p w fs o st = record { answer = answer.refusal n file p 0; work = replicate (length w) 0; frames = replicate (length fs) no_frame; out = o; state = st }

-- The order: "b + c over" 16,384 "is 25, tested where 25 now is", before any reading; the table, the job; "30 .. tested after both files are read and before any step",
-- with file and place 0, as "it is no file". None of them has steps. Else it is the single run.
pub record ResumeOrder (t f s : List ℕ) (c : ℕ) (w : List ℕ) (fs : List LentFrame) (o st : List ℕ) : Type 0 where
  pub budget : 16384 < steps_of s + c → resume_run t f s c w fs o st ≡ refused_as 25 0 0 w fs o st
  pub table : steps_of s + c ≤ 16384 → (x : Cause) (p : ℕ) → read_table t ≡ refused x p → resume_run t f s c w fs o st ≡ refused_as (number x) 1 p w fs o st
  pub job : steps_of s + c ≤ 16384 → (T : Table) → read_table t ≡ gives T → (x : Cause) (p : ℕ) → read_job f ≡ refused x p → resume_run t f s c w fs o st ≡ refused_as (number x) 2 p w fs o st
  pub forged : steps_of s + c ≤ 16384 → (T : Table) (j : Job) → read_table t ≡ gives T → read_job f ≡ gives j → (genuine T j s ≡ true → ⊥)
      → resume_run t f s c w fs o st ≡ refused_as 30 0 0 w fs o st
  pub goes_on : steps_of s + c ≤ 16384 → (T : Table) (j : Job) → read_table t ≡ gives T → read_job f ≡ gives j → genuine T j s ≡ true
      → resume_run t f s c w fs o st ≡ run_halting t f (steps_of s + c) w fs o st

abbrev pub Resume-order : Type 0
Resume-order = (t f s : List ℕ) (c : ℕ) (w : List ℕ) (fs : List LentFrame) (o st : List ℕ) → Enough w fs st → ResumeOrder t f s c w fs o st

-- "A halt is 24 ..; no other answer touches it", with the steps from the start
abbrev pub Resume-writes : Type 0
Resume-writes = (t f s : List ℕ) (c : ℕ) (w : List ℕ) (fs : List LentFrame) (o st : List ℕ) → WritesState t f (steps_of s + c) w fs o st (resume_run t f s c w fs o st)

-- Demand 1: 22, 23, 24 and 40 with the steps, from the start, which for 40 are more than 4,096; 25 and 30 without any; "file and place 0"
abbrev pub ResumeRefuses : (saved : List ℕ) → (budget : ℕ) → (number file place steps : ℕ) → Type 0
ResumeRefuses s c n f q k = RunRefuses (steps_of s + c) n f q k ⊎ ((f ≡ 0) × (q ≡ 0) × (n ≡ 30) × (k ≡ 0))

abbrev pub Resume-ends : Type 0
Resume-ends = (t f s : List ℕ) (c : ℕ) (w : List ℕ) (fs : List LentFrame) (o st : List ℕ) → EndsHalting t f w fs o st (ResumeRefuses s c) (resume_run t f s c w fs o st)

-- P14: "For one table, job, saved state where one is handed over, and the same lent spaces, any machine answer other than 24 under budget b is the answer, bytes
-- and steps included, under every larger budget allowed."
abbrev pub More-budget-resume : Type 0
More-budget-resume = (t f s : List ℕ) (b c : ℕ) (w : List ℕ) (fs : List LentFrame) (o st : List ℕ) → b ≤ c → steps_of s + c ≤ 16384 → ((resume_run t f s b w fs o st).answer.number ≡ 24 → ⊥)
    → resume_run t f s c w fs o st ≡ resume_run t f s b w fs o st
