-- Document 02, P1: halted runs with all bytes of what they save, and going on, but for the lines with states of full size, which stand in crate worked_runs.
-- `proofs/WorkedHalts.antt` proves the lines.
use Rattle.std.specs.Prelude.{ℕ, List, [], ◌∷◌, ◌++◌, replicate}
use Rattle.std.proofs.Math.Option.{none, some}
use Rattle.format.specs.declared.refusals.Cause.TheVariants.{FieldTorn, BudgetTooLarge, StateNotGenuine}
use Rattle.answers.specs.Answers as answer
use Rattle.lent_frames.specs.declared.LentFrame.{LentFrame}
use Rattle.entries.specs.Outcomes.{success, refusal, table_file, other_file, no_file}
use Rattle.entries.specs.Halting.{unbegun}
use Rattle.entries.specs.Lines.{Line, halted_with, halts, ends_unhalted, saves, halts_with, steps_in, resumes}
use Rattle.entries.specs.Worked.{table_a}

-- T3 on 10
abbrev pub job_t3 : List ℕ
job_t3 = 3 ∷ 0 ∷ 2 ∷ 0 ∷ 10 ∷ 24 ∷ 0 ∷ 2 ∷ 0 ∷ 3 ∷ []

-- (2 ⊗ id) | id on 20, 30
abbrev pub job_shares : List ℕ
job_shares = 3 ∷ 0 ∷ 4 ∷ 0 ∷ 20 ∷ 0 ∷ 30 ∷ 22 ∷ 0 ∷ 14 ∷ 20 ∷ 0 ∷ 8 ∷ 16 ∷ 0 ∷ 2 ∷ 0 ∷ 2 ∷ 17 ∷ 0 ∷ 0 ∷ 17 ∷ 0 ∷ 0 ∷ []

-- empty on no goals
abbrev pub job_empty : List ℕ
job_empty = 3 ∷ 0 ∷ 0 ∷ 21 ∷ 0 ∷ 0 ∷ []

-- a frame that was lent with something in it
abbrev pub a_frame : LentFrame
a_frame = record { term = 7; goals = 7; count = 7; stage = 7 }

unfoldable pub halt_lines : List Line
halt_lines =
    -- "A budget of 0 halts before the first term"
    halts table_a job_t3 0 (0 ∷ 0 ∷ 0 ∷ 0 ∷ 0 ∷ 1 ∷ 0 ∷ 1 ∷ 0 ∷ 5 ∷ 0 ∷ 1 ∷ 0 ∷ 10 ∷ [])
    -- the body of T3, which stands in the table
    ∷ halts table_a job_t3 1 (0 ∷ 1 ∷ 0 ∷ 0 ∷ 0 ∷ 1 ∷ 0 ∷ 0 ∷ 0 ∷ 74 ∷ 0 ∷ 1 ∷ 0 ∷ 10 ∷ [])
    -- an alternation in it, whose left term has all its goals
    ∷ halts table_a job_t3 2 (0 ∷ 2 ∷ 0 ∷ 0 ∷ 0 ∷ 2 ∷ 6 ∷ 0 ∷ 0 ∷ 90 ∷ 0 ∷ 0 ∷ 0 ∷ 0 ∷ 0 ∷ 77 ∷ 0 ∷ 1 ∷ 0 ∷ 10 ∷ [])
    -- the left term failed: nothing is left of it
    ∷ halts table_a job_t3 4 (0 ∷ 4 ∷ 0 ∷ 0 ∷ 0 ∷ 1 ∷ 0 ∷ 0 ∷ 0 ∷ 90 ∷ 0 ∷ 1 ∷ 0 ∷ 10 ∷ [])
    -- T1 in (T1 ; T3): [1](1 ; (2 ⊗ id)), where 1 has ended, 2 is to begin and 30 is still to come
    ∷ halts table_a job_t3 10 (0 ∷ 10 ∷ 0 ∷ 5 ∷ 16 ∷ 0 ∷ 2 ∷ 0 ∷ 1 ∷ 0 ∷ 5 ∷ 2 ∷ 0 ∷ 0 ∷ 98 ∷ 0 ∷ 0 ∷ 1 ∷ 0 ∷ 0 ∷ 35 ∷ 0 ∷ 0 ∷ 3 ∷ 0 ∷ 0 ∷ 43 ∷ 0 ∷ 0 ∷ 4 ∷ 0 ∷ 0 ∷ 51 ∷ 0 ∷ 1 ∷ 0 ∷ 30 ∷ 0 ∷ 0 ∷ 0 ∷ 46 ∷ 0 ∷ 1 ∷ 0 ∷ 20 ∷ [])
    -- then 2 has ended too: the finished fields stand outermost first
    ∷ halts table_a job_t3 11 (0 ∷ 11 ∷ 0 ∷ 10 ∷ 16 ∷ 0 ∷ 2 ∷ 0 ∷ 1 ∷ 16 ∷ 0 ∷ 2 ∷ 0 ∷ 2 ∷ 0 ∷ 5 ∷ 2 ∷ 0 ∷ 0 ∷ 98 ∷ 0 ∷ 0 ∷ 1 ∷ 0 ∷ 0 ∷ 35 ∷ 0 ∷ 0 ∷ 3 ∷ 0 ∷ 0 ∷ 43 ∷ 0 ∷ 0 ∷ 5 ∷ 0 ∷ 0 ∷ 51 ∷ 0 ∷ 0 ∷ 0 ∷ 0 ∷ 0 ∷ 51 ∷ 0 ∷ 1 ∷ 0 ∷ 30 ∷ [])
    -- T3 in (T1 ; T3), where T1 has ended, with the whole field of what it left
    ∷ halts table_a job_t3 12 (0 ∷ 12 ∷ 0 ∷ 24 ∷ 18 ∷ 0 ∷ 21 ∷ 0 ∷ 1 ∷ 19 ∷ 0 ∷ 16 ∷ 16 ∷ 0 ∷ 2 ∷ 0 ∷ 1 ∷ 20 ∷ 0 ∷ 8 ∷ 16 ∷ 0 ∷ 2 ∷ 0 ∷ 2 ∷ 17 ∷ 0 ∷ 0 ∷ 0 ∷ 2 ∷ 3 ∷ 0 ∷ 0 ∷ 98 ∷ 0 ∷ 0 ∷ 0 ∷ 0 ∷ 0 ∷ 98 ∷ 0 ∷ 1 ∷ 0 ∷ 30 ∷ [])
    -- 1 ⊗ id on 10, 40: the goals that 1 gave are with the tensor
    ∷ halts table_a (3 ∷ 0 ∷ 4 ∷ 0 ∷ 10 ∷ 0 ∷ 40 ∷ 20 ∷ 0 ∷ 8 ∷ 16 ∷ 0 ∷ 2 ∷ 0 ∷ 1 ∷ 17 ∷ 0 ∷ 0 ∷ []) 2 (0 ∷ 2 ∷ 0 ∷ 5 ∷ 16 ∷ 0 ∷ 2 ∷ 0 ∷ 1 ∷ 0 ∷ 2 ∷ 5 ∷ 1 ∷ 0 ∷ 15 ∷ 0 ∷ 2 ∷ 0 ∷ 20 ∷ 0 ∷ 30 ∷ 0 ∷ 1 ∷ 0 ∷ 15 ∷ 0 ∷ 1 ∷ 0 ∷ 40 ∷ [])
    -- an alternation shares its goals with the terms inside it: none is its own
    ∷ halts table_a job_shares 2 (0 ∷ 2 ∷ 0 ∷ 0 ∷ 0 ∷ 3 ∷ 6 ∷ 1 ∷ 0 ∷ 21 ∷ 0 ∷ 0 ∷ 4 ∷ 1 ∷ 0 ∷ 18 ∷ 0 ∷ 1 ∷ 0 ∷ 30 ∷ 0 ∷ 1 ∷ 0 ∷ 13 ∷ 0 ∷ 1 ∷ 0 ∷ 20 ∷ [])
    -- until the first is used up
    ∷ halts table_a job_shares 3 (0 ∷ 3 ∷ 0 ∷ 5 ∷ 16 ∷ 0 ∷ 2 ∷ 0 ∷ 2 ∷ 0 ∷ 3 ∷ 6 ∷ 1 ∷ 0 ∷ 21 ∷ 0 ∷ 1 ∷ 0 ∷ 20 ∷ 5 ∷ 1 ∷ 0 ∷ 18 ∷ 0 ∷ 0 ∷ 0 ∷ 1 ∷ 0 ∷ 18 ∷ 0 ∷ 1 ∷ 0 ∷ 30 ∷ [])
    -- (2 ; empty) | id on 20: the right term of a sequence has a list of its own
    ∷ halts table_a (3 ∷ 0 ∷ 2 ∷ 0 ∷ 20 ∷ 22 ∷ 0 ∷ 14 ∷ 19 ∷ 0 ∷ 8 ∷ 16 ∷ 0 ∷ 2 ∷ 0 ∷ 2 ∷ 21 ∷ 0 ∷ 0 ∷ 17 ∷ 0 ∷ 0 ∷ []) 3 (0 ∷ 3 ∷ 0 ∷ 5 ∷ 16 ∷ 0 ∷ 2 ∷ 0 ∷ 2 ∷ 0 ∷ 3 ∷ 6 ∷ 1 ∷ 0 ∷ 19 ∷ 0 ∷ 1 ∷ 0 ∷ 20 ∷ 3 ∷ 1 ∷ 0 ∷ 16 ∷ 0 ∷ 0 ∷ 0 ∷ 1 ∷ 0 ∷ 16 ∷ 0 ∷ 0 ∷ [])
    -- (2 ⊗ ((3 ⊗ id) | id)) | id on 20, 30, 40: each alternation has the goal that was used up between it and the next one inside
    ∷ halts table_a (3 ∷ 0 ∷ 6 ∷ 0 ∷ 20 ∷ 0 ∷ 30 ∷ 0 ∷ 40 ∷ 22 ∷ 0 ∷ 28 ∷ 20 ∷ 0 ∷ 22 ∷ 16 ∷ 0 ∷ 2 ∷ 0 ∷ 2 ∷ 22 ∷ 0 ∷ 14 ∷ 20 ∷ 0 ∷ 8 ∷ 16 ∷ 0 ∷ 2 ∷ 0 ∷ 3 ∷ 17 ∷ 0 ∷ 0 ∷ 17 ∷ 0 ∷ 0 ∷ 17 ∷ 0 ∷ 0 ∷ []) 6 (0 ∷ 6 ∷ 0 ∷ 10 ∷ 16 ∷ 0 ∷ 2 ∷ 0 ∷ 2 ∷ 16 ∷ 0 ∷ 2 ∷ 0 ∷ 3 ∷ 0 ∷ 5 ∷ 6 ∷ 1 ∷ 0 ∷ 37 ∷ 0 ∷ 1 ∷ 0 ∷ 20 ∷ 5 ∷ 1 ∷ 0 ∷ 20 ∷ 0 ∷ 0 ∷ 6 ∷ 1 ∷ 0 ∷ 34 ∷ 0 ∷ 1 ∷ 0 ∷ 30 ∷ 5 ∷ 1 ∷ 0 ∷ 31 ∷ 0 ∷ 0 ∷ 0 ∷ 1 ∷ 0 ∷ 31 ∷ 0 ∷ 1 ∷ 0 ∷ 40 ∷ [])
    -- id on 256 goals: numbers over 255, the high byte first
    ∷ halts [] ((3 ∷ 2 ∷ 0 ∷ []) ++ replicate 512 1 ++ (17 ∷ 0 ∷ 0 ∷ [])) 0 ((0 ∷ 0 ∷ 0 ∷ 0 ∷ 0 ∷ 1 ∷ 0 ∷ 1 ∷ 2 ∷ 3 ∷ 1 ∷ 0 ∷ []) ++ replicate 512 1)
    -- a run that ends with its budget does not halt
    ∷ ends_unhalted [] job_empty 1 (success (3 ∷ 0 ∷ 0 ∷ 21 ∷ 0 ∷ 0 ∷ 3 ∷ 0 ∷ 0 ∷ []) 1)
    -- 25 before any reading; 24 comes after the files are read
    ∷ ends_unhalted [] job_empty 16384 (success (3 ∷ 0 ∷ 0 ∷ 21 ∷ 0 ∷ 0 ∷ 3 ∷ 0 ∷ 0 ∷ []) 1)
    ∷ ends_unhalted (1 ∷ []) [] 16385 (refusal BudgetTooLarge no_file 0 0)
    ∷ ends_unhalted [] [] 0 (refusal FieldTorn other_file 0 0)
    -- "its state fills the first bytes .. and bytes past them untouched; no other answer touches it"
    ∷ saves (7 ∷ 7 ∷ 7 ∷ []) (some (1 ∷ 2 ∷ [])) (1 ∷ 2 ∷ 7 ∷ [])
    ∷ saves (7 ∷ 7 ∷ 7 ∷ []) none (7 ∷ 7 ∷ 7 ∷ [])
    -- 29 before 25, and all four spaces stay as they were
    ∷ halts_with [] [] 16385 (7 ∷ []) (a_frame ∷ []) (7 ∷ []) (7 ∷ []) (record { answer = answer.refusal 29 0 0 0; work = 7 ∷ []; frames = a_frame ∷ []; out = 7 ∷ []; state = 7 ∷ [] })
    ∷ []

unfoldable pub resume_lines : List Line
resume_lines =
    -- "b being 0 if the state is too short to hold it"
    steps_in [] 0
    ∷ steps_in (5 ∷ []) 0
    ∷ steps_in (1 ∷ 2 ∷ []) 258
    ∷ steps_in (1 ∷ 2 ∷ 3 ∷ []) 258
    -- 25: b + c over 16,384, before any reading, whatever the state
    ∷ resumes (1 ∷ []) [] (64 ∷ 0 ∷ []) 0 (unbegun (refusal FieldTorn table_file 0 0))
    ∷ resumes (1 ∷ []) [] (64 ∷ 0 ∷ []) 1 (unbegun (refusal BudgetTooLarge no_file 0 0))
    ∷ resumes (1 ∷ []) [] (16 ∷ 0 ∷ []) 12288 (unbegun (refusal FieldTorn table_file 0 0))
    ∷ resumes (1 ∷ []) [] (16 ∷ 0 ∷ []) 12289 (unbegun (refusal BudgetTooLarge no_file 0 0))
    ∷ resumes (1 ∷ []) [] (16 ∷ []) 16384 (unbegun (refusal FieldTorn table_file 0 0))
    ∷ resumes (1 ∷ []) [] (16 ∷ []) 16385 (unbegun (refusal BudgetTooLarge no_file 0 0))
    ∷ resumes (1 ∷ []) [] (0 ∷ 1 ∷ []) 4294967295 (unbegun (refusal BudgetTooLarge no_file 0 0))
    -- 30 is tested "after both files are read"
    ∷ resumes [] (3 ∷ []) [] 0 (unbegun (refusal FieldTorn other_file 0 0))
    -- 30: no bytes; the right ones without zeros behind them; a run that has ended after so many steps
    ∷ resumes [] job_empty [] 0 (unbegun (refusal StateNotGenuine no_file 0 0))
    ∷ resumes [] job_empty (0 ∷ 0 ∷ 0 ∷ 0 ∷ 0 ∷ 1 ∷ 0 ∷ 1 ∷ 0 ∷ 3 ∷ 0 ∷ 0 ∷ []) 0 (unbegun (refusal StateNotGenuine no_file 0 0))
    ∷ resumes [] job_empty (0 ∷ 1 ∷ 0 ∷ 0 ∷ 0 ∷ 1 ∷ 0 ∷ 1 ∷ 0 ∷ 3 ∷ 0 ∷ 0 ∷ []) 4095 (unbegun (refusal StateNotGenuine no_file 0 0))
    ∷ []
