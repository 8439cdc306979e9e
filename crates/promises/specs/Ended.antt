-- Demand 1, for every entry: "ends with the full result or a numbered refusal with its place; a refusal leaves the output space as it was".
use Rattle.std.specs.Prelude.{ℕ, ◌≤◌, ◌<◌, ◌≡◌, List, ◌++◌, length, drop, replicate}
use Rattle.answers.specs.declared.Answer.{Answer}
use Rattle.answers.specs.Answers as answer
use Rattle.entries.specs.LentSpace.{Checked, Written}

-- The answer of an entry that writes nothing, called with a table and another file: its counts; a refusal of the table or of the other file, with a place in it;
-- one of the entry's own refusals, with its place; or 29.
pub data Ended (table other : List ℕ) (Own : (number place : ℕ) → Type 0) : Answer → Type 0 where
  ended_counted : (f u r d : ℕ) → Ended table other Own (answer.counted f u r d)
  ended_table : (n q : ℕ) → 1 ≤ n → n ≤ 9 → q ≤ length table → Ended table other Own (answer.refusal n 1 q 0)
  ended_other : (n q : ℕ) → 1 ≤ n → n ≤ 5 → q ≤ length other → Ended table other Own (answer.refusal n 2 q 0)
  ended_own : (n q : ℕ) → Own n q → Ended table other Own (answer.refusal n 2 q 0)
  ended_unstarted : Ended table other Own (answer.refusal 29 0 0 0)

-- Such a call: its answer is one of these, and the work space is all zero afterwards, or untouched after 29, which is the answer exactly if it is shorter than the entry's size.
pub record EndsChecked (table other work : List ℕ) (size : ℕ) (Own : (number place : ℕ) → Type 0) (c : Checked) : Type 0 where
  pub answers : Ended table other Own c.answer
  pub clears : size ≤ length work → c.work ≡ replicate (length work) 0
  pub keeps : length work < size → (c.answer ≡ answer.refusal 29 0 0 0) × (c.work ≡ work)

-- The answer of an entry that writes: the length written and the steps; a refusal of the table or of the other file; one of the entry's own, with file, place and steps; 26, with the steps; or 29.
pub data EndedWriting (table other : List ℕ) (Own : (number file place steps : ℕ) → Type 0) : Answer → Type 0 where
  ended_wrote : (n k : ℕ) → EndedWriting table other Own (answer.wrote n k)
  ended_table : (n q : ℕ) → 1 ≤ n → n ≤ 9 → q ≤ length table → EndedWriting table other Own (answer.refusal n 1 q 0)
  ended_other : (n q : ℕ) → 1 ≤ n → n ≤ 5 → q ≤ length other → EndedWriting table other Own (answer.refusal n 2 q 0)
  ended_own : (n f q k : ℕ) → Own n f q k → EndedWriting table other Own (answer.refusal n f q k)
  ended_output : (k : ℕ) → EndedWriting table other Own (answer.refusal 26 0 0 k)
  ended_unstarted : EndedWriting table other Own (answer.refusal 29 0 0 0)

-- one of the entry's own refusals that is in the other file, without steps
abbrev pub InOther : ((number place : ℕ) → Type 0) → (number file place steps : ℕ) → Type 0
InOther Own n f q k = (f ≡ 2) × (k ≡ 0) × Own n q

-- what a success leaves in the output space: the result, as long as the answer says, and behind it what was there
pub record Result (out : List ℕ) (c : Written) : Type 0 where
  pub bytes : List ℕ
  pub fits : length bytes ≤ length out
  pub length_is : c.answer.length ≡ length bytes
  pub out_is : c.out ≡ bytes ++ drop (length bytes) out

-- Such a call: as above, and "A refusal leaves output space untouched; a success leaves the bytes past its result untouched."
pub record EndsWritten (table other work out : List ℕ) (size : ℕ) (Own : (number file place steps : ℕ) → Type 0) (c : Written) : Type 0 where
  pub answers : EndedWriting table other Own c.answer
  pub clears : size ≤ length work → c.work ≡ replicate (length work) 0
  pub keeps : length work < size → (c.answer ≡ answer.refusal 29 0 0 0) × (c.work ≡ work)
  pub refused : (c.answer.number ≡ 0 → ⊥) → (c.out ≡ out) × (c.answer.length ≡ 0)
  pub succeeded : c.answer.number ≡ 0 → Result out c
