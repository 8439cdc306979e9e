-- `fields::read_fields` meets its contract: every turn of the reading keeps what the state means, so the last state tells the table (`StateLaws.whole_table_lem`).
-- Assumes nothing.
use mathlib.Core.Path.{◌∙◌}
use Rattle.parts.proofs.ToldLaws.{told_is}
use Rattle.reading.proofs.BegunTable.{begun_table_lem}
use Rattle.reading.proofs.ReachLaws.{reaches_kept}
use Rattle.tables.specs.Shapes.{table_counted}
use Rattle.tables.proofs.StateLaws.{whole_table_lem}
use Rattle.tables.proofs.fields.read_fields.Goals as goal

pub read_on-requires : goal.read_on-requires
read_on-requires c = rw c.begin_table.ensures (begun_table_lem _ _ _ c.requires)

pub returns : goal.returns
returns c =
    let turns = c.read_on.ensures in
    record { value = told_is table_counted c.read_on.result _ c.told.ensures ∙ whole_table_lem _ _ _ _ _ _ c.requires c.begin_table.ensures turns.0 turns.1; kept = reaches_kept _ _ _ _ _ _ turns.0 }
