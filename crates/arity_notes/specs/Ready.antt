-- What a run finds in its work space besides what it writes there itself: the indexes over the table, and the noted arities of both files.
use Rattle.std.specs.Prelude.{ℕ, ◌≤◌, ◌<◌, ◌≡◌, List, length, get_or}
use Rattle.std.proofs.Math.Option.{some}
use Rattle.format.specs.declared.values.TacticNo.{TacticNo}
use Rattle.format.specs.Terms.{Term}
use Rattle.format.specs.Standing.{Stands}
use Rattle.tables.specs.Tables.{Table, UniqueDefinitions}
use Rattle.tables.specs.Lookup.{find_body}
use Rattle.tables.specs.Places.{body_place}
use Rattle.tables.specs.Standing.{TableStands}
use Rattle.index.specs.Build.{RulesIndexed, DefinitionsIndexed}
use Rattle.arity_notes.specs.Regions.{table_notes, job_notes, definitions_place, rules_place, regions_end}
use Rattle.arities.specs.Arities.{arities}
use Rattle.arity_notes.specs.Notes.{Noted}

-- rules and definitions are found by the index in the work space
pub record TableIndexed (bytes : List ℕ) (first : ℕ) (w : List ℕ) : Type 0 where
  pub rules : RulesIndexed bytes first w rules_place
  pub definitions : DefinitionsIndexed bytes first w definitions_place

-- the notes of all bodies of a table
abbrev pub BodiesNoted : Table → List ℕ → Type 0
BodiesNoted T w = (d : TacticNo) (t : Term) → find_body T d ≡ some t → Noted w table_notes (arities T) (body_place T d) t

-- what finding the arities is given: a table that was read, with its indexes, and a job's term that stands at a place
pub record FillGiven (bytes : List ℕ) (first : ℕ) (job : List ℕ) (term : ℕ) (w : List ℕ) : Type 0 where
  pub small : length bytes < 65536
  pub job_small : length job < 65536
  pub space : regions_end ≤ length w
  pub table : Table
  pub table_stands : TableStands bytes first table
  pub indexed : TableIndexed bytes first w
  pub the_term : Term
  pub term_stands : Stands job term the_term

-- what it does: both files are noted, and the indexes stay
pub record Filled (bytes : List ℕ) (first : ℕ) (job : List ℕ) (term : ℕ) (w v : List ℕ) : Type 0 where
  pub same_length : length v ≡ length w
  pub beyond : (i : ℕ) → definitions_place ≤ i → get_or v i 0 ≡ get_or w i 0
  pub bodies : (T : Table) → TableStands bytes first T → UniqueDefinitions T → BodiesNoted T v
  pub the_job : (T : Table) → TableStands bytes first T → UniqueDefinitions T → (t : Term) → Stands job term t → Noted v job_notes (arities T) term t
