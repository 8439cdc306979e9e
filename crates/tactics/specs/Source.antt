-- The two files of a run or a search: 0 the table, 1 the job.
use Rattle.std.specs.Prelude.{ℕ, cond, List, eqb}

-- the file that a term stands in
abbrev pub source : (table job : List ℕ) → (file : ℕ) → List ℕ
source table job file = cond (eqb file 0) table job
