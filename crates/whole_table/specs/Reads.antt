-- What reading a whole table says.
use Rattle.std.specs.Prelude as std
use Rattle.std.specs.Prelude.{Some, None, Ok, ℕ, ◌+◌, ◌≡◌, List}
use Rattle.words.specs.Kept.{Kept}
use Rattle.format.specs.declared.refusals.Cause.{Cause}
use Rattle.format.specs.Results.{gives, refused_at}
use Rattle.format.specs.declared.refusals.Refusal.{Refusal}
use Rattle.tables.specs.declared.fields.TableParts.{TableParts}
use Rattle.tables.specs.Tables.{Table}
use Rattle.tables.specs.Repeats.{rules_size}
use Rattle.tables.specs.Shapes.{table_shape}
use Rattle.tables.specs.ReadTables.{read_table}
use Rattle.index.specs.Layout.{rules_room}
use Rattle.index.specs.Build.{RulesIndexed, DefinitionsIndexed}
use Rattle.seen.specs.Layout.{seen_room}

-- what a search that found a place, or none, says
abbrev pub refusal_at : Cause → std.Option ℕ → std.Result (Unit {0}) Refusal
refusal_at c None = Ok tt
refusal_at c (Some p) = refused_at c p

-- reading a table: the answer of the definition, what is left alone, and the two indexes of a table that reads
pub record ReadsTable (s w w' : List ℕ) (other base : ℕ) (r : std.Result TableParts Refusal) : Type 0 where
  pub answer : r ≡ table_shape (read_table s)
  pub kept : Kept w w' other (base + rules_room)
  pub rules_indexed : (T : Table) → read_table s ≡ gives T → RulesIndexed s (rules_size T.rules) w' base
  pub definitions_indexed : (T : Table) → read_table s ≡ gives T → DefinitionsIndexed s (rules_size T.rules) w' (other + seen_room)
