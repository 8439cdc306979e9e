-- Document 02, P1: the entries run_halting and resume.
use Rattle.std.specs.Prelude.{ℕ, ◌+◌, Bool, true, false, cond, ◌&&◌, ◌||◌, List, [], ◌∷◌, ◌++◌, eqb, ltb, length, drop, replicate}
use Rattle.std.proofs.Math.Option.{Option, none, some}
use Rattle.words.specs.Word.{word}
use Rattle.format.specs.Limits.{most_steps}
use Rattle.format.specs.declared.refusals.Cause.TheVariants.{BudgetTooLarge, WorkTooShort, StateNotGenuine}
use Rattle.format.specs.Refusals.{number}
use Rattle.format.specs.Results.{Result, gives, refused}
use Rattle.tables.specs.Tables.{Table}
use Rattle.tables.specs.ReadTables.{read_table}
use Rattle.files.specs.Jobs.{Job, read_job}
use Rattle.evaluation.specs.Machine.{run}
use Rattle.answers.specs.declared.Answer.{Answer}
use Rattle.answers.specs.Answers as answer
use Rattle.lent_frames.specs.declared.LentFrame.{LentFrame}
use Rattle.lent_frames.specs.Frames.{no_frame}
use Rattle.entries.specs.Outcomes.{Outcome, refusal, table_file, other_file, no_file}
use Rattle.entries.specs.LentSpace.{Written, write_out}
use Rattle.entries.specs.Run.{begins, run_result, run_work}
use Rattle.entries.specs.SavedState.{saved_size, saved_state}

-- what a call comes to, before lent space is looked at: its outcome, and the saved state if the run halts
pub record HaltingOutcome : Type 0 where
  pub outcome : Outcome (List ℕ)
  pub saved : Option (List ℕ)

-- a refusal before the first step: nothing is saved
abbrev pub unbegun : Outcome (List ℕ) → HaltingOutcome
unbegun o = record { outcome = o; saved = none }

-- the job run for so many steps
unfoldable pub ran_for : Table → Job → (steps : ℕ) → HaltingOutcome
ran_for T j n = record { outcome = run_result j (run T n (begins j)); saved = saved_state (run T n (begins j)) }

-- the job was read, or not
unfoldable pub with_job : Table → Result Job → (Table → Job → HaltingOutcome) → HaltingOutcome
with_job T (gives j) next = next T j
with_job T (refused c p) next = unbegun (refusal c other_file p 0)

-- "after both files are read", the table first
unfoldable pub with_files : Result Table → Result Job → (Table → Job → HaltingOutcome) → HaltingOutcome
with_files (gives T) r next = with_job T r next
with_files (refused c p) r next = unbegun (refusal c table_file p 0)

-- "25 .. before any reading": so many steps in all are within the limit, and then the files
unfoldable pub within_limit : (steps : ℕ) → (table job : List ℕ) → (Table → Job → HaltingOutcome) → HaltingOutcome
within_limit n table job next = cond (ltb most_steps n) (unbegun (refusal BudgetTooLarge no_file 0 0)) (with_files (read_table table) (read_job job) next)

-- "Makers want to halt a run after some steps"
unfoldable pub halting_outcome : (table job : List ℕ) → (budget : ℕ) → HaltingOutcome
halting_outcome table job b = within_limit b table job (λ T j. ran_for T j b)

-- "b being 0 if the state is too short to hold it": b is the number in the first two bytes
unfoldable pub steps_of : (saved : List ℕ) → ℕ
steps_of s = cond (ltb (length s) 2) 0 (word s 0)

-- "those bytes"
unfoldable pub same_bytes : List ℕ → List ℕ → Bool
same_bytes [] [] = true
same_bytes [] (y ∷ ys) = false
same_bytes (x ∷ xs) [] = false
same_bytes (x ∷ xs) (y ∷ ys) = eqb x y && same_bytes xs ys

-- a run that has ended has no saved state
unfoldable pub is_saved : Option (List ℕ) → List ℕ → Bool
is_saved none s = false
is_saved (some b) s = same_bytes b s

-- "A saved state counts as genuine exactly if the same table and job, run for its step count, halt with those bytes."
unfoldable pub genuine : Table → Job → (saved : List ℕ) → Bool
genuine T j s = is_saved (saved_state (run T (steps_of s) (begins j))) s

-- "Refused: 30, a saved state of another size or not genuine .., tested after both files are read and before any step"; else "the answer of a single run with b + c"
unfoldable pub going_on : (saved : List ℕ) → (budget : ℕ) → Table → Job → HaltingOutcome
going_on s c T j = cond (genuine T j s) (ran_for T j (steps_of s + c)) (unbegun (refusal StateNotGenuine no_file 0 0))

-- "b + c over" the limit (P12: 16,384, "also for the sum in P1") "is 25, tested where 25 now is"
unfoldable pub resume_outcome : (table job saved : List ℕ) → (budget : ℕ) → HaltingOutcome
resume_outcome table job s c = within_limit (steps_of s + c) table job (going_on s c)

-- the size of the work space that docs/ENTRIES.md names: that of run, and a saved state
abbrev pub halting_work : ℕ
halting_work = run_work + saved_size

-- the number of frames that docs/ENTRIES.md names: one for each step
abbrev pub most_frames : ℕ
most_frames = most_steps

-- A call of an entry that may halt: its answer, and every lent space afterwards.
pub record Halting : Type 0 where
  pub answer : Answer
  pub work : List ℕ
  pub frames : List LentFrame
  pub out : List ℕ
  pub state : List ℕ

-- "Work space is all zero afterwards", and so are the frames
abbrev pub cleared_frames : List LentFrame → List LentFrame
cleared_frames frames = replicate (length frames) no_frame

-- "its state fills the first bytes .. of a second space .., zeros last and bytes past them untouched; no other answer touches it"
unfoldable pub save_in : (state : List ℕ) → Option (List ℕ) → List ℕ
save_in state none = state
save_in state (some s) = s ++ drop (length s) state

abbrev pub spaces_after : Written → List LentFrame → (state : List ℕ) → Halting
spaces_after w frames state = record { answer = w.answer; work = w.work; frames = frames; out = w.out; state = state }

-- 29 first, "shorter is 29": of the work space, the frames or the second space; then all four are untouched
abbrev pub any_short : (work : List ℕ) → List LentFrame → (state : List ℕ) → Bool
any_short work frames state = ltb (length work) halting_work || ltb (length frames) most_frames || ltb (length state) saved_size

unfoldable pub halt_in : (work : List ℕ) → List LentFrame → (out state : List ℕ) → HaltingOutcome → Halting
halt_in work frames out state h =
    cond (any_short work frames state)
    (record { answer = answer.refusal (number WorkTooShort) no_file 0 0; work = work; frames = frames; out = out; state = state })
    (spaces_after (write_out work out h.outcome) (cleared_frames frames) (save_in state h.saved))

unfoldable pub run_halting : (table job : List ℕ) → (budget : ℕ) → (work : List ℕ) → List LentFrame → (out state : List ℕ) → Halting
run_halting table job b work frames out state = halt_in work frames out state (halting_outcome table job b)

unfoldable pub resume_run : (table job saved : List ℕ) → (budget : ℕ) → (work : List ℕ) → List LentFrame → (out state : List ℕ) → Halting
resume_run table job s c work frames out state = halt_in work frames out state (resume_outcome table job s c)
