-- Document 01, "A table and its edges": a worked line is a call on bytes and what it comes to.
use Rattle.std.specs.Prelude.{ℕ, ◌≡◌, Bool, List, [], ◌∷◌, length}
use Rattle.std.proofs.Math.Option.{Option, some}
use Rattle.format.specs.declared.refusals.Cause.TheVariants.{BudgetSpent}
use Rattle.format.specs.Results.{Result}
use Rattle.tables.specs.Tables.{Table}
use Rattle.files.specs.Derivations.{Derivation}
use Rattle.answers.specs.declared.Answer.{Answer}
use Rattle.lent_frames.specs.declared.LentFrame.{LentFrame}
use Rattle.entries.specs.Outcomes.{Outcome, refusal, no_file}
use Rattle.entries.specs.LentSpace.{Counts, Checked, counted_answer, Written, write_out}
use Rattle.entries.specs.Check.{on_proof, proof_counts, forest_file, check}
use Rattle.entries.specs.CheckFlat.{check_flat_outcome, write_outcome, written_file}
use Rattle.entries.specs.Run.{run_outcome, run_tactic}
use Rattle.entries.specs.SavedState.{saved_size, zeros_to}
use Rattle.entries.specs.Halting.{HaltingOutcome, unbegun, halting_outcome, steps_of, resume_outcome, Halting, save_in, run_halting}
use Rattle.entries.specs.Search.{search_outcome, search_tactic}
use Rattle.entries.specs.Texts.{read_text_outcome, write_text_outcome}
use Rattle.entries.specs.PrintedLine.{printed_line}
use Rattle.entries.specs.CheckProgram.{program_outcome}

pub data Line : Type 0 where
  of_bytes : (file : List ℕ) → (bytes : ℕ) → Line
  checks : (table proof : List ℕ) → Outcome Counts → Line
  checks_as : (table proof : List ℕ) → Answer → Line
  flattens : (table proof : List ℕ) → Outcome (List ℕ) → Line
  checks_flat : (table flat : List ℕ) → Outcome Counts → Line
  writes : (table flat : List ℕ) → Outcome (List ℕ) → Line
  writes_of : Table → Derivation → Result (List ℕ) → Line
  runs : (table job : List ℕ) → (budget : ℕ) → Outcome (List ℕ) → Line
  runs_into : (table job : List ℕ) → (budget : ℕ) → (work out : List ℕ) → Written → Line
  runs_with : (table job : List ℕ) → (budget : ℕ) → (work out : List ℕ) → Written → Line
  halts : (table job : List ℕ) → (budget : ℕ) → (contents : List ℕ) → Line
  ends_unhalted : (table job : List ℕ) → (budget : ℕ) → Outcome (List ℕ) → Line
  saves : (state : List ℕ) → Option (List ℕ) → (after : List ℕ) → Line
  halts_with : (table job : List ℕ) → (budget : ℕ) → (work : List ℕ) → List LentFrame → (out state : List ℕ) → Halting → Line
  steps_in : (saved : List ℕ) → (steps : ℕ) → Line
  resumes : (table job saved : List ℕ) → (budget : ℕ) → HaltingOutcome → Line
  searches : (table job : List ℕ) → (height budget : ℕ) → Outcome (List ℕ) → Line
  searches_into : (table job : List ℕ) → (height budget : ℕ) → (work out : List ℕ) → Written → Line
  searches_with : (table job : List ℕ) → (height budget : ℕ) → (work out : List ℕ) → Written → Line
  checks_with : (table proof work : List ℕ) → Checked → Line
  prints : (table proof : List ℕ) → (opened : Bool) → (line : List ℕ) → Line
  reads_text : (text : List ℕ) → Outcome (List ℕ) → Line
  writes_text : (term : List ℕ) → Outcome (List ℕ) → Line

-- a halt after so many steps, with these bytes and zeros behind them
abbrev pub halted_with : (steps : ℕ) → (contents : List ℕ) → HaltingOutcome
halted_with n s = record { outcome = refusal BudgetSpent no_file 0 n; saved = some (zeros_to saved_size s) }

-- what the line says
unfoldable pub Holds : Line → Type 0
Holds (of_bytes s n) = length s ≡ n
Holds (checks t p o) = on_proof proof_counts t p ≡ o
-- the answer, by its number, of a check that was lent enough work space
Holds (checks_as t p a) = counted_answer (on_proof proof_counts t p) ≡ a
Holds (flattens t p o) = on_proof forest_file t p ≡ o
Holds (checks_flat t f o) = check_flat_outcome t f ≡ o
Holds (writes t f o) = write_outcome t f ≡ o
Holds (writes_of T d r) = written_file T d 0 ≡ r
Holds (runs t j b o) = run_outcome t j b ≡ o
-- a run that was lent enough work space
Holds (runs_into t j b w o x) = write_out w o (run_outcome t j b) ≡ x
Holds (runs_with t j b w o x) = run_tactic t j b w o ≡ x
-- a run that halts, and what its saved state holds before the zeros
Holds (halts t j b s) = halting_outcome t j b ≡ halted_with b s
Holds (ends_unhalted t j b o) = halting_outcome t j b ≡ unbegun o
Holds (saves st s x) = save_in st s ≡ x
Holds (halts_with t j b w fs o st x) = run_halting t j b w fs o st ≡ x
Holds (steps_in s n) = steps_of s ≡ n
Holds (resumes t j s c h) = resume_outcome t j s c ≡ h
Holds (searches t j h b o) = search_outcome t j h b ≡ o
-- a search that was lent enough work space
Holds (searches_into t j h b w o x) = write_out w o (search_outcome t j h b) ≡ x
Holds (searches_with t j h b w o x) = search_tactic t j h b w o ≡ x
Holds (checks_with t p w x) = check t p w ≡ x
-- the check program, which has enough work space
Holds (prints t p b l) = printed_line (counted_answer (program_outcome t p b)) ≡ l
Holds (reads_text s o) = read_text_outcome s ≡ o
Holds (writes_text s o) = write_text_outcome s ≡ o

-- every line of a list holds
infixr 5 ◌&◌
pub data AllHold : List Line → Type 0 where
  no_more : AllHold []
  ◌&◌ : {l : Line} {ls : List Line} → Holds l → AllHold ls → AllHold (l ∷ ls)
