-- Document 02, P7, "A proof file of no bytes", as statements about the definitions of the entries and of the check program.
use Rattle.std.specs.Prelude.{ℕ, ◌≤◌, ◌<◌, ◌≡◌, true, false, ◌⊎◌, ◌↔◌, List, [], ◌∷◌, length, replicate}
use Rattle.format.specs.Encoding.{Bytes}
use Rattle.format.specs.declared.refusals.Cause.{Cause}
use Rattle.format.specs.Refusals.{number}
use Rattle.format.specs.Results.{gives, refused}
use Rattle.format.specs.Terms.{empty}
use Rattle.tables.specs.Tables.{Table}
use Rattle.tables.specs.ReadTables.{read_table}
use Rattle.files.specs.Proofs.{Proof, read_proof_fields, read_proof}
use Rattle.answers.specs.Answers as answer
use Rattle.entries.specs.Outcomes.{Outcome, in_file, done, table_file, other_file}
use Rattle.entries.specs.LentSpace.{check_in, write_in}
use Rattle.entries.specs.Check.{checked, proof_counts, forest_file, check_work, flatten_work, check, flatten}
use Rattle.entries.specs.CheckFlat.{check_flat_work, write_proof_work, check_flat, write_proof}
use Rattle.entries.specs.Run.{run_work, run_tactic}
use Rattle.entries.specs.Search.{search_work, search_tactic}
use Rattle.entries.specs.Texts.{write_text_work, write_text}
use Rattle.entries.specs.PrintedLine.{printed_line}
use Rattle.entries.specs.CheckProgram.{check_program}
use Rattle.entries.specs.Worked.{no_goals_proof, no_bytes_line, unopened_line}
use Rattle.promises.specs.WriteProofPromises.{wrote}

-- "no goals, the empty hiproof and none remaining": said here once more, so that what is stated of it holds `empty_proof` to these words
abbrev pub no_goals : Proof
no_goals = record { goals = []; term = empty; remaining = [] }

-- "an empty goal list"
abbrev pub empty_list : List ℕ
empty_list = 3 ∷ 0 ∷ 0 ∷ []

-- "Zero bytes now mean no goals, the empty hiproof and none remaining": they and the nine bytes of its encoding read as this proof, and no other bytes
abbrev pub NoBytes-read : Type 0
NoBytes-read = (s : List ℕ) → Bytes s → (read_proof s ≡ gives no_goals) ↔ ((s ≡ []) ⊎ (s ≡ no_goals_proof))

-- with a table that reads
pub record NoBytesAccepted (t : List ℕ) : Type 0 where
  -- "accepted, with one term field and no use", and so with no rule
  pub checks : (w : List ℕ) → check_work ≤ length w → check t [] w ≡ record { answer = answer.counted 1 0 0 0; work = replicate (length w) 0 }
  -- "Flattening it writes an empty goal list", given the space; and so does flattening the nine bytes
  pub flattens : (w o : List ℕ) → flatten_work ≤ length w → 3 ≤ length o → flatten t [] w o ≡ wrote empty_list w o
  pub flattens_nine : (w o : List ℕ) → flatten_work ≤ length w → 3 ≤ length o → flatten t no_goals_proof w o ≡ wrote empty_list w o
  pub no_room : (w o : List ℕ) → flatten_work ≤ length w → length o < 3 → flatten t [] w o ≡ record { answer = answer.refusal 26 0 0 0; work = replicate (length w) 0; out = o }
  -- what it flattens to is written back as the nine bytes
  pub written_back : (w o : List ℕ) → write_proof_work ≤ length w → 9 ≤ length o → write_proof t empty_list w o ≡ wrote no_goals_proof w o

abbrev pub NoBytes-accepted : Type 0
NoBytes-accepted = (t : List ℕ) (T : Table) → read_table t ≡ gives T → NoBytesAccepted t

-- "One or two bytes are still 2."
abbrev pub NoBytes-short : Type 0
NoBytes-short = (t p w v o : List ℕ) (T : Table) → read_table t ≡ gives T → 0 < length p → length p < 3 → check_work ≤ length w → flatten_work ≤ length v
    → ((check t p w).answer ≡ answer.refusal 2 2 0 0) × ((flatten t p v o).answer ≡ answer.refusal 2 2 0 0)

-- check and flatten as they stood before P7, but for the counts, which are those of now: the three fields are read of every proof file
unfoldable pub on_fields : {A : Type 0} → (Table → Proof → A) → (table proof : List ℕ) → Outcome A
on_fields value table proof =
    in_file table_file (read_table table) (λ T.
    in_file other_file (read_proof_fields proof) (λ p.
    in_file other_file (checked T p (value T p)) done))

-- of every proof file that has a byte they are as they were, in every byte of lent space
abbrev pub NoBytes-alone : Type 0
NoBytes-alone = (t p w o : List ℕ) → 0 < length p → (check t p w ≡ check_in check_work w (on_fields proof_counts t p)) × (flatten t p w o ≡ write_in flatten_work w o (on_fields forest_file t p))

-- a job, a flat file and a term file of no bytes are still 2; of a table that reads and space enough
pub record NoBytesElsewhere (t : List ℕ) : Type 0 where
  pub job : (b : ℕ) (w o : List ℕ) → b ≤ 16384 → run_work ≤ length w → (run_tactic t [] b w o).answer ≡ answer.refusal 2 2 0 0
  pub searched_job : (h b : ℕ) (w o : List ℕ) → 1 ≤ h → h ≤ 64 → b ≤ 4096 → search_work ≤ length w → (search_tactic t [] h b w o).answer ≡ answer.refusal 2 2 0 0
  pub flat : (w : List ℕ) → check_flat_work ≤ length w → (check_flat t [] w).answer ≡ answer.refusal 2 2 0 0
  pub written_flat : (w o : List ℕ) → write_proof_work ≤ length w → (write_proof t [] w o).answer ≡ answer.refusal 2 2 0 0
  pub term : (w o : List ℕ) → write_text_work ≤ length w → (write_text [] w o).answer ≡ answer.refusal 2 2 0 0

abbrev pub NoBytes-elsewhere : Type 0
NoBytes-elsewhere = (t : List ℕ) (T : Table) → read_table t ≡ gives T → NoBytesElsewhere t

-- "When the check program can't open proof.hip it still prints 2 at place 0 of file 2, the table's refusals coming first." One that it opens is checked, and one of no bytes is accepted.
pub record ProgramAnswers (t p w : List ℕ) : Type 0 where
  pub opened : check_program t p true w ≡ check t p w
  pub unopened : (T : Table) → read_table t ≡ gives T → check_program t p false w ≡ record { answer = answer.refusal 2 2 0 0; work = replicate (length w) 0 }
  pub table_first : (c : Cause) (q : ℕ) → read_table t ≡ refused c q → check_program t p false w ≡ record { answer = answer.refusal (number c) 1 q 0; work = replicate (length w) 0 }
  pub unopened_printed : (T : Table) → read_table t ≡ gives T → printed_line (check_program t p false w).answer ≡ unopened_line
  pub no_bytes_printed : (T : Table) → read_table t ≡ gives T → printed_line (check_program t [] true w).answer ≡ no_bytes_line

abbrev pub Program-answers : Type 0
Program-answers = (t p w : List ℕ) → check_work ≤ length w → ProgramAnswers t p w
