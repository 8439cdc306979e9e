-- Document 01, "Flat derivations": "A flat derivation is right when .. every entry applies and nothing is pending at its end", in the table of the same call.
use Rattle.std.specs.Prelude.{ℕ, ◌≡◌, List, []}
use Rattle.format.specs.Results.{gives}
use Rattle.tables.specs.Tables.{Table, HasRule}
use Rattle.tables.specs.ReadTables.{read_table}
use Rattle.files.specs.Derivations.{Derivation, read_flat}
use Rattle.hitac.specs.Derives.{Derives}

-- a table file and a flat file of these bytes: the entries, in order, take the roots to no goal, each use by a rule of the table
pub record Right (table flat : List ℕ) : Type 0 where
  pub the_table : Table
  pub the_derivation : Derivation
  pub table_reads : read_table table ≡ gives the_table
  pub flat_reads : read_flat flat ≡ gives the_derivation
  pub derives : Derives (HasRule the_table) the_derivation.roots the_derivation.entries []
