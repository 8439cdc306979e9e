-- Document 02, P1: going on from a state of full size. `proofs/Resumed.antt` proves the lines.
use Rattle.std.specs.Prelude.{ℕ, List, [], ◌∷◌}
use Rattle.format.specs.declared.refusals.Cause.TheVariants.{StateNotGenuine}
use Rattle.entries.specs.Outcomes.{success, refusal, no_file}
use Rattle.entries.specs.SavedState.{saved_size, zeros_to}
use Rattle.entries.specs.Halting.{unbegun}
use Rattle.entries.specs.Lines.{Line, halted_with, resumes}
use Rattle.entries.specs.Worked.{table_a}
use Rattle.entries.specs.WorkedHalts.{job_shares, job_empty}

unfoldable pub full_size_lines : List Line
full_size_lines =
    -- 30: one byte changed in a state of the right size
    resumes [] job_empty (zeros_to saved_size (0 ∷ 0 ∷ 0 ∷ 0 ∷ 0 ∷ 1 ∷ 0 ∷ 1 ∷ 0 ∷ 4 ∷ 0 ∷ 0 ∷ [])) 0 (unbegun (refusal StateNotGenuine no_file 0 0))
    -- going on with 0 gives the same bytes, and with 1 those of 3 steps
    ∷ resumes table_a job_shares (zeros_to saved_size (0 ∷ 2 ∷ 0 ∷ 0 ∷ 0 ∷ 3 ∷ 6 ∷ 1 ∷ 0 ∷ 21 ∷ 0 ∷ 0 ∷ 4 ∷ 1 ∷ 0 ∷ 18 ∷ 0 ∷ 1 ∷ 0 ∷ 30 ∷ 0 ∷ 1 ∷ 0 ∷ 13 ∷ 0 ∷ 1 ∷ 0 ∷ 20 ∷ [])) 0 (halted_with 2 (0 ∷ 2 ∷ 0 ∷ 0 ∷ 0 ∷ 3 ∷ 6 ∷ 1 ∷ 0 ∷ 21 ∷ 0 ∷ 0 ∷ 4 ∷ 1 ∷ 0 ∷ 18 ∷ 0 ∷ 1 ∷ 0 ∷ 30 ∷ 0 ∷ 1 ∷ 0 ∷ 13 ∷ 0 ∷ 1 ∷ 0 ∷ 20 ∷ []))
    ∷ resumes table_a job_shares (zeros_to saved_size (0 ∷ 2 ∷ 0 ∷ 0 ∷ 0 ∷ 3 ∷ 6 ∷ 1 ∷ 0 ∷ 21 ∷ 0 ∷ 0 ∷ 4 ∷ 1 ∷ 0 ∷ 18 ∷ 0 ∷ 1 ∷ 0 ∷ 30 ∷ 0 ∷ 1 ∷ 0 ∷ 13 ∷ 0 ∷ 1 ∷ 0 ∷ 20 ∷ [])) 1 (halted_with 3 (0 ∷ 3 ∷ 0 ∷ 5 ∷ 16 ∷ 0 ∷ 2 ∷ 0 ∷ 2 ∷ 0 ∷ 3 ∷ 6 ∷ 1 ∷ 0 ∷ 21 ∷ 0 ∷ 1 ∷ 0 ∷ 20 ∷ 5 ∷ 1 ∷ 0 ∷ 18 ∷ 0 ∷ 0 ∷ 0 ∷ 1 ∷ 0 ∷ 18 ∷ 0 ∷ 1 ∷ 0 ∷ 30 ∷ []))
    -- and the steps of an ending are those from the start
    ∷ resumes table_a job_shares (zeros_to saved_size (0 ∷ 3 ∷ 0 ∷ 5 ∷ 16 ∷ 0 ∷ 2 ∷ 0 ∷ 2 ∷ 0 ∷ 3 ∷ 6 ∷ 1 ∷ 0 ∷ 21 ∷ 0 ∷ 1 ∷ 0 ∷ 20 ∷ 5 ∷ 1 ∷ 0 ∷ 18 ∷ 0 ∷ 0 ∷ 0 ∷ 1 ∷ 0 ∷ 18 ∷ 0 ∷ 1 ∷ 0 ∷ 30 ∷ [])) 9 (unbegun (success (3 ∷ 0 ∷ 4 ∷ 0 ∷ 20 ∷ 0 ∷ 30 ∷ 20 ∷ 0 ∷ 8 ∷ 16 ∷ 0 ∷ 2 ∷ 0 ∷ 2 ∷ 17 ∷ 0 ∷ 0 ∷ 3 ∷ 0 ∷ 2 ∷ 0 ∷ 30 ∷ []) 4))
    ∷ []
