-- What the check of entries that were read comes to.
use Rattle.std.specs.Prelude.{ℕ, ◌≡◌, ◌≤◌, List, Ok, Err, length}
use Rattle.std.specs.Prelude as std
use Rattle.format.specs.declared.refusals.Refusal.{Refusal}
use Rattle.format.specs.Limits.{most_bytes}
use Rattle.format.specs.Refusals.{number}
use Rattle.format.specs.Results.{gives, refused, told, refused_at}
use Rattle.tables.specs.Tables.{Table}
use Rattle.tables.specs.ReadTables.{read_table}
use Rattle.tables.specs.Standing.{TableStands}
use Rattle.index.specs.Build.{RulesIndexed}
use Rattle.files.specs.declared.flats.FlatParts.{FlatParts}
use Rattle.files.specs.Derivations.{Derivation, read_flat}
use Rattle.files.specs.Shapes.{flat_parts_of}
use Rattle.files.specs.Standing.{FlatStands}
use Rattle.answers.specs.declared.Answer.{Answer}
use Rattle.answers.specs.Answers as answer
use Rattle.entries.specs.Outcomes.{table_file, other_file}
use Rattle.entries.specs.LentSpace.{Counts}
use Rattle.entries.specs.CheckFlat.{right, flat_counts}
use Rattle.derivation.specs.declared.check.Counted.{Counted}
use Rattle.derivation.specs.declared.check.FilesRead.{FilesRead}
use Rattle.derivation.specs.Layout.{index_place}

-- a derivation stands in the file, and these are its parts
pub record DerivationAt (flat : List ℕ) (parts : FlatParts) (d : Derivation) : Type 0 where
  pub stands : FlatStands flat d
  pub parts_are : flat_parts_of d ≡ parts

-- a table and a flat file that were read: what stands in them, and the index over the rules
pub record FilesStand (table flat work : List ℕ) (rules : ℕ) (parts : FlatParts) : Type 0 where
  pub the_table : Table
  pub reads : read_table table ≡ gives the_table
  pub stands : TableStands table rules the_table
  pub short : length table ≤ most_bytes
  pub indexed : RulesIndexed table rules work index_place
  pub derivation : Derivation
  pub flat_reads : read_flat flat ≡ gives derivation
  pub at : DerivationAt flat parts derivation

-- one of them was refused, the flat file only where the table reads; the answer of a call that is given both
pub data FilesRefused (table flat : List ℕ) (a : Answer) : Type 0 where
  table_refused : (f : Refusal) → read_table table ≡ refused f.cause f.place → a ≡ answer.refusal (number f.cause) table_file f.place 0 → FilesRefused table flat a
  flat_refused : (T : Table) → read_table table ≡ gives T → (f : Refusal) → read_flat flat ≡ refused f.cause f.place → a ≡ answer.refusal (number f.cause) other_file f.place 0 → FilesRefused table flat a

-- reading both, the table first
abbrev pub ReadsFiles : (table flat work : List ℕ) → std.Result FilesRead Answer → Type 0
ReadsFiles table flat w (Ok r) = FilesStand table flat w r.rules r.parts
ReadsFiles table flat w (Err a) = FilesRefused table flat a

-- the counts as the code has them
abbrev pub counted_of : Counts → Counted
counted_of c = record { uses = c.uses; opens = c.remaining; rules = c.rules }

-- the counts of a derivation in a file that ends at `end`, or the refusal
unfoldable pub checked_entries : Table → Derivation → (end : ℕ) → std.Result Counted Refusal
checked_entries T d end = told refused_at (λ c. Ok (counted_of c)) (right T d end (flat_counts T d))

-- the answer of a success or of a refusal
abbrev pub answer_in : std.Result Answer Answer → Answer
answer_in (Ok a) = a
answer_in (Err a) = a
