-- Document 02, P6, "Which rules carried the proof", as statements about the look-up and about the definitions of check and check_flat. Of a refusal the count is 0, as its whole answer says.
use Rattle.std.specs.Prelude.{ℕ, ◌≤◌, ◌≡◌, ◌↔◌, List, length}
use Rattle.std.proofs.Math.Option.{some}
use Rattle.format.specs.declared.values.RuleName.{RuleName}
use Rattle.format.specs.declared.values.Goal.{Goal}
use Rattle.format.specs.Encoding.{Bytes}
use Rattle.format.specs.Results.{gives}
use Rattle.rule_set.specs.Different.{SetSize}
use Rattle.tables.specs.Tables.{Table, NumberedRule}
use Rattle.tables.specs.Lookup.{found_rule, find_rule}
use Rattle.tables.specs.ReadTables.{read_table}
use Rattle.answers.specs.declared.Answer.{Answer}
use Rattle.answers.specs.Answers as answer
use Rattle.entries.specs.Check.{check_work, check, flatten}
use Rattle.entries.specs.CheckFlat.{check_flat_work, check_flat, write_proof}
use Rattle.promises.specs.Accepted.{Accepted}
use Rattle.promises.specs.Right.{Right}
use Rattle.promises.specs.Used.{UsedIn, UsedFlat}
use Rattle.promises.specs.WriteProofPromises.{wrote}

-- "Looking up a rule must now give its number in the table, counting from 0, besides its premises": in every table that reads, the number of the rules before it, and no other
abbrev pub Rules-numbered : Type 0
Rules-numbered = (t : List ℕ) (T : Table) → read_table t ≡ gives T → (a : RuleName) (γ : Goal) (n : ℕ) (h : List Goal) → (find_rule T a γ ≡ some (found_rule n h)) ↔ NumberedRule T n a γ h

-- "a proof's acceptance gives the count of different rules used": the size of the set of the rules used in it
abbrev pub Rules-used : Type 0
Rules-used = (t p w : List ℕ) → check_work ≤ length w → (a : Accepted t p) → SetSize (UsedIn a.the_table a.the_proof) (check t p w).answer.rules

-- "and the flat check gives the same count", of every right derivation, whether or not a proof was flattened to it: the size of the set of the rules used in it
abbrev pub Rules-flat : Type 0
Rules-flat = (t f w : List ℕ) → check_flat_work ≤ length w → (r : Right t f) → SetSize (UsedFlat r.the_table r.the_derivation) (check_flat t f w).answer.rules

-- there are no more of them than uses, and than rules in the table
pub record FewRules (T : Table) (x : Answer) : Type 0 where
  pub within_uses : x.rules ≤ x.uses
  pub within_table : x.rules ≤ length T.rules

-- in both answers
abbrev pub Rules-few : Type 0
Rules-few = ((t p w : List ℕ) → check_work ≤ length w → (a : Accepted t p) → FewRules a.the_table (check t p w).answer)
    × ((t f w : List ℕ) → check_flat_work ≤ length w → (r : Right t f) → FewRules r.the_table (check_flat t f w).answer)

-- "the same count": check_flat accepts the flat file with the uses, open goals and rules that check gives for the proof file; a flat file has no term fields
abbrev pub CountedAlike : (table proof flat : List ℕ) → Type 0
CountedAlike t p f = (w v : List ℕ) → check_work ≤ length w → check_flat_work ≤ length v
    → (check_flat t f v).answer ≡ answer.counted 0 (check t p w).answer.uses (check t p w).answer.remaining (check t p w).answer.rules

-- so for an accepted proof and the flat file that flatten writes for it
abbrev pub Rules-alike : Type 0
Rules-alike = (t p : List ℕ) → Bytes t → Bytes p → Accepted t p → (f v o : List ℕ) → flatten t p v o ≡ wrote f v o → CountedAlike t p f

-- and for a right derivation and the proof file that write_proof writes for it
abbrev pub Rules-back : Type 0
Rules-back = (t f : List ℕ) → Bytes f → Right t f → (p v o : List ℕ) → write_proof t f v o ≡ wrote p v o → CountedAlike t p f
