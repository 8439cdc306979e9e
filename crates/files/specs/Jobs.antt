-- Document 01, "Fields": "Job file: a goal list, then one term of tags 16 to 24."
use Rattle.std.specs.Prelude.{ℕ, ◌+◌, cond, List, ◌++◌, eqb, length}
use Rattle.format.specs.declared.values.Goal.{Goal}
use Rattle.format.specs.declared.refusals.Cause.TheVariants.{LengthWrong}
use Rattle.format.specs.Results.{Result, gives, refused, and_then}
use Rattle.format.specs.Inputs.{of_size}
use Rattle.format.specs.Tags.{tactic_kind}
use Rattle.format.specs.Terms.{Term}
use Rattle.format.specs.ReadTerms.{ParsedTerm, read_term}
use Rattle.format.specs.Goals.{ParsedGoals, read_goals}
use Rattle.format.specs.Encoding.{term_bytes, goal_list_bytes}

pub record Job : Type 0 where
  pub goals : List Goal
  pub term : Term

-- "bytes left .. behind the last field of a job or proof file", 4 at the first of them
unfoldable pub last_term_of : List ℕ → ParsedTerm → Result Term
last_term_of s t = cond (eqb t.next (length s)) (gives t.term) (refused LengthWrong t.next)

-- one term from a place to the end of the file; kinds up to high may stand in it
unfoldable pub read_last_term : List ℕ → (high at : ℕ) → Result Term
read_last_term s high at = and_then (read_term (length s + 1) s high at (length s) 0) (last_term_of s)

-- the job, once its goals are read
unfoldable pub job_of : List ℕ → ParsedGoals → Result Job
job_of s g = and_then (read_last_term s tactic_kind g.next) (λ t. gives (record { goals = g.goals; term = t }))

unfoldable pub read_job : List ℕ → Result Job
read_job s = of_size s (and_then (read_goals s 0 (length s)) (job_of s))

-- its bytes
unfoldable pub job_bytes : Job → List ℕ
job_bytes j = goal_list_bytes j.goals ++ term_bytes j.term
