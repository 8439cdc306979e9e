-- Demands 1 and 2 for the entry check, as statements about its definition.
use Rattle.std.specs.Prelude.{ℕ, ◌≤◌, ◌<◌, ◌≡◌, ◌⊎◌, ◌↔◌, List, length}
use Rattle.format.specs.declared.values.Goal.{Goal}
use Rattle.format.specs.Results.{gives}
use Rattle.format.specs.Terms.{fields}
use Rattle.rule_set.specs.Different.{SetSize}
use Rattle.tables.specs.Tables.{Table, HasRule}
use Rattle.tables.specs.ReadTables.{read_table}
use Rattle.files.specs.Proofs.{Proof, read_proof, term_place, remaining_place}
use Rattle.hitac.specs.Hiproofs.{atomics}
use Rattle.hitac.specs.Validates.{AtMost256, Validates}
use Rattle.hitac.specs.Stops.{Stops, StopNumber}
use Rattle.hitac.specs.Reaches.{FirstRefused}
use Rattle.answers.specs.Answers as answer
use Rattle.entries.specs.Check.{check_work, check}
use Rattle.promises.specs.Accepted.{Accepted}
use Rattle.promises.specs.Used.{UsedIn}
use Rattle.promises.specs.Ended.{EndsChecked}

-- "Given the space of 29, the checker answers 0 for such a proof and for no other."
abbrev pub Check-accepts : Type 0
Check-accepts = (t p w : List ℕ) → check_work ≤ length w → ((check t p w).answer.number ≡ 0) ↔ Accepted t p

-- "(term fields, uses, remaining goals)" of an accepted proof, and document 02, P6: "the count of different rules used", which is the size of the set of them
abbrev pub Check-counts : Type 0
Check-counts = (t p w : List ℕ) → check_work ≤ length w → (a : Accepted t p)
    → (k : ℕ) × SetSize (UsedIn a.the_table a.the_proof) k × ((check t p w).answer ≡ answer.counted (fields a.the_proof.term) (atomics a.the_proof.term) (length a.the_proof.remaining) k)

-- 20, 22, 34 and 35 with their places exactly where the rules of `Stops` say; 20, 34 or 35 with its place exactly by the first term in the walk that cannot take its goals, and why
-- (`FirstRefused`); and 21 exactly if the walk gives other goals than the remaining ones
pub record Refuses (t p w : List ℕ) (T : Table) (x : Proof) : Type 0 where
  pub stops : (n q : ℕ) → Stops (HasRule T) x.term (term_place x) x.goals n q → (check t p w).answer ≡ answer.refusal n 2 q 0
  pub stopped : (n q : ℕ) → (n ≡ 21 → ⊥) → (check t p w).answer ≡ answer.refusal n 2 q 0 → Stops (HasRule T) x.term (term_place x) x.goals n q
  pub reasons : (n q : ℕ) → FirstRefused (HasRule T) x.term (term_place x) x.goals n q → (check t p w).answer ≡ answer.refusal n 2 q 0
  pub reasoned : (n q : ℕ) → (n ≡ 21 → ⊥) → (n ≡ 22 → ⊥) → (check t p w).answer ≡ answer.refusal n 2 q 0 → FirstRefused (HasRule T) x.term (term_place x) x.goals n q
  pub differs : (h : List Goal) → Validates (HasRule T) AtMost256 x.term x.goals h → (h ≡ x.remaining → ⊥) → (check t p w).answer ≡ answer.refusal 21 2 (remaining_place x) 0
  pub differed : (check t p w).answer.number ≡ 21 → (h : List Goal) × Validates (HasRule T) AtMost256 x.term x.goals h × (h ≡ x.remaining → ⊥)

abbrev pub Check-refuses : Type 0
Check-refuses = (t p w : List ℕ) (T : Table) (x : Proof) → check_work ≤ length w → read_table t ≡ gives T → read_proof p ≡ gives x → Refuses t p w T x

-- 20, 22, 34 and 35 in the walk, then 21: at a field of the proof file
abbrev pub CheckRefuses : (proof : List ℕ) → (number place : ℕ) → Type 0
CheckRefuses proof n q = (StopNumber n ⊎ (n ≡ 21)) × (q < length proof)

abbrev pub Check-ends : Type 0
Check-ends = (t p w : List ℕ) → EndsChecked t p w check_work (CheckRefuses p) (check t p w)
