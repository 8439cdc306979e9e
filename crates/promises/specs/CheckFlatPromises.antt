-- Demands 1 and 3 for the entry check_flat, as statements about its definition.
use Rattle.std.specs.Prelude.{ℕ, ◌≤◌, ◌≡◌, ◌↔◌, List, [], length}
use Rattle.format.specs.declared.values.Goal.{Goal}
use Rattle.format.specs.Results.{gives}
use Rattle.rule_set.specs.Different.{SetSize}
use Rattle.tables.specs.Tables.{Table, HasRule}
use Rattle.tables.specs.ReadTables.{read_table}
use Rattle.files.specs.Derivations.{Derivation, read_flat, entries_place}
use Rattle.hitac.specs.Counts.{uses, every_use}
use Rattle.hitac.specs.Derives.{Derives}
use Rattle.hitac.specs.FirstWrong.{FirstWrong}
use Rattle.hitac.specs.Forest.{leaves}
use Rattle.answers.specs.Answers as answer
use Rattle.entries.specs.CheckFlat.{check_flat_work, check_flat}
use Rattle.promises.specs.Right.{Right}
use Rattle.promises.specs.Used.{UsedFlat}
use Rattle.promises.specs.Ended.{EndsChecked}

-- 0 for the right derivations and for no others
abbrev pub CheckFlat-right : Type 0
CheckFlat-right = (t f w : List ℕ) → check_flat_work ≤ length w → ((check_flat t f w).answer.number ≡ 0) ↔ Right t f

-- with the number of uses and of open leaves, and document 02, P6: the size of the set of the rules used
abbrev pub CheckFlat-counts : Type 0
CheckFlat-counts = (t f w : List ℕ) → check_flat_work ≤ length w → (r : Right t f)
    → (k : ℕ) × SetSize (UsedFlat r.the_table r.the_derivation) k × ((check_flat t f w).answer ≡ answer.counted 0 (uses every_use r.the_derivation.entries) (length (leaves r.the_derivation.entries)) k)

-- "27: flat file wrong; place of the entry, or the file's length if goals are pending": exactly where the rules say
pub record RefusesFlat (t f w : List ℕ) (T : Table) (d : Derivation) : Type 0 where
  pub wrong : (q : ℕ) → FirstWrong (HasRule T) (entries_place d) d.roots d.entries q → (check_flat t f w).answer ≡ answer.refusal 27 2 q 0
  pub pending : (k : List Goal) → Derives (HasRule T) d.roots d.entries k → (k ≡ [] → ⊥) → (check_flat t f w).answer ≡ answer.refusal 27 2 (length f) 0

abbrev pub CheckFlat-refuses : Type 0
CheckFlat-refuses = (t f w : List ℕ) (T : Table) (d : Derivation) → check_flat_work ≤ length w → read_table t ≡ gives T → read_flat f ≡ gives d → RefusesFlat t f w T d

-- 27: at an entry, or at the end of the file
abbrev pub CheckFlatRefuses : (flat : List ℕ) → (number place : ℕ) → Type 0
CheckFlatRefuses flat n q = (n ≡ 27) × (q ≤ length flat)

abbrev pub CheckFlat-ends : Type 0
CheckFlat-ends = (t f w : List ℕ) → EndsChecked t f w check_flat_work (CheckFlatRefuses f) (check_flat t f w)
