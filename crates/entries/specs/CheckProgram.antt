-- Document 01, "A table and its edges": what the check program prints the line of. Document 02, P7, tells a proof.hip that cannot be opened from one of zero bytes.
use Rattle.std.specs.Prelude.{ℕ, Bool, cond, List}
use Rattle.format.specs.declared.refusals.Cause.TheVariants.{FieldTorn}
use Rattle.tables.specs.ReadTables.{read_table}
use Rattle.entries.specs.Outcomes.{Outcome, refusal, in_file, table_file, other_file}
use Rattle.entries.specs.LentSpace.{Counts, Checked, check_in}
use Rattle.entries.specs.Check.{on_proof, proof_counts, check_work}

-- "When the check program can't open proof.hip it still prints 2 at place 0 of file 2, the table's refusals coming first."
unfoldable pub without_proof : (table : List ℕ) → Outcome Counts
without_proof table = in_file table_file (read_table table) (λ T. refusal FieldTorn other_file 0 0)

-- the bytes of both files, and whether proof.hip was opened; if it was, what check comes to
unfoldable pub program_outcome : (table proof : List ℕ) → (opened : Bool) → Outcome Counts
program_outcome table proof opened = cond opened (on_proof proof_counts table proof) (without_proof table)

unfoldable pub check_program : (table proof : List ℕ) → (opened : Bool) → (work : List ℕ) → Checked
check_program table proof opened work = check_in check_work work (program_outcome table proof opened)
