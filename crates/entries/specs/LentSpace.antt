-- Document 01, "What the bytes bring about" and "What the state brings about": the answer, and every byte of lent space afterwards.
use Rattle.std.specs.Prelude.{ℕ, cond, List, ◌++◌, ltb, length, drop, replicate}
use Rattle.format.specs.declared.refusals.Cause.TheVariants.{OutputTooShort, WorkTooShort}
use Rattle.format.specs.Refusals.{number}
use Rattle.answers.specs.declared.Answer.{Answer}
use Rattle.answers.specs.Answers as answer
use Rattle.entries.specs.Outcomes.{Outcome, success, refusal, no_file}

-- "Work space is all zero afterwards"
abbrev pub cleared : List ℕ → List ℕ
cleared work = replicate (length work) 0

-- term fields, uses, remaining goals and different rules used
pub record Counts : Type 0 where
  pub fields : ℕ
  pub uses : ℕ
  pub remaining : ℕ
  pub rules : ℕ

-- A call of an entry that writes nothing: its answer, and the work space afterwards.
pub record Checked : Type 0 where
  pub answer : Answer
  pub work : List ℕ

abbrev pub counted_answer : Outcome Counts → Answer
counted_answer (success c k) = answer.counted c.fields c.uses c.remaining c.rules
counted_answer (refusal c f p k) = answer.refusal (number c) f p k

-- "29: work space shorter than the size docs/ names for that entry", before anything else; then the work space is untouched
unfoldable pub check_in : (size : ℕ) → (work : List ℕ) → Outcome Counts → Checked
check_in size work o =
    cond (ltb (length work) size)
    (record { answer = answer.refusal (number WorkTooShort) no_file 0 0; work = work })
    (record { answer = counted_answer o; work = cleared work })

-- A call of an entry that writes: its answer, and both lent spaces afterwards.
pub record Written : Type 0 where
  pub answer : Answer
  pub work : List ℕ
  pub out : List ℕ

-- "26: output space shorter than the result", last; "A refusal leaves output space untouched; a success leaves the bytes past its result untouched."
unfoldable pub write_out : (work out : List ℕ) → Outcome (List ℕ) → Written
write_out work out (refusal c f p k) = record { answer = answer.refusal (number c) f p k; work = cleared work; out = out }
write_out work out (success bytes k) =
    cond (ltb (length out) (length bytes))
    (record { answer = answer.refusal (number OutputTooShort) no_file 0 k; work = cleared work; out = out })
    (record { answer = answer.wrote (length bytes) k; work = cleared work; out = bytes ++ drop (length bytes) out })

-- 29 first, and then both spaces are untouched
unfoldable pub write_in : (size : ℕ) → (work out : List ℕ) → Outcome (List ℕ) → Written
write_in size work out o =
    cond (ltb (length work) size)
    (record { answer = answer.refusal (number WorkTooShort) no_file 0 0; work = work; out = out })
    (write_out work out o)
