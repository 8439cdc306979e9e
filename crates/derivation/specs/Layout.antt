-- The regions of the work space of check_flat and write_proof. The index over the rules stands behind what reading the table takes; once the table is read, the cursors of the pending goals and the set of the rules used stand there.
use Rattle.std.specs.Prelude.{ℕ, ◌+◌, ◌*◌}
use Rattle.format.specs.Limits.{most_uses}
use Rattle.rule_set.specs.Layout.{set_room}
use Rattle.index.specs.Layout.{heads_room}
use Rattle.whole_table.specs.Layout.{reading_scratch}

abbrev pub cursors_place : ℕ
cursors_place = 0

-- four bytes for a cursor, of which each use adds at most one
abbrev pub cursors_end : ℕ
cursors_end = cursors_place + 4 * most_uses

-- the set of the rules used stands behind the cursors
abbrev pub set_place : ℕ
set_place = cursors_end

abbrev pub set_end : ℕ
set_end = set_place + set_room

abbrev pub index_place : ℕ
index_place = reading_scratch

-- the index's nodes stand behind its heads
abbrev pub nodes_place : ℕ
nodes_place = index_place + heads_room
