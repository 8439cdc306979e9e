-- The regions of the work space of a run that notes arities, behind those of crate arities: the noted arities of left terms, and the indexes over the table.
-- While the files are read and the arities are found, the first three of arities hold what that needs.
use Rattle.std.specs.Prelude.{ℕ, ◌+◌, ◌*◌, ◌-◌, ◌/◌}
use Rattle.format.specs.Limits.{most_bytes}
use Rattle.index.specs.Layout.{rules_room, definitions_room}
use Rattle.seen.specs.Layout.{seen_room}
use Rattle.arities.specs.Layout.{space_end}

-- two bytes for each field of a file: fields begin at least three bytes apart
abbrev pub notes_room : ℕ
notes_room = 2 * (most_bytes / 3)

-- the noted arities of the table, and those of the job
abbrev pub table_notes : ℕ
table_notes = space_end

abbrev pub job_notes : ℕ
job_notes = table_notes + notes_room

-- The index over the definitions and the one over the rules. What else reading a table takes lies before them, where the notes come later.
abbrev pub definitions_place : ℕ
definitions_place = job_notes + notes_room

abbrev pub reading_place : ℕ
reading_place = definitions_place - seen_room

abbrev pub rules_place : ℕ
rules_place = definitions_place + definitions_room

abbrev pub regions_end : ℕ
regions_end = rules_place + rules_room
