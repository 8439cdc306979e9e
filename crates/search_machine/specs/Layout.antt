-- The regions of the search's work space. While the files are read, its beginning holds what reading needs; of that, the index over the definitions and the one over the rules stay.
use Rattle.std.specs.Prelude.{ℕ, ◌+◌, ◌*◌}
use Rattle.format.specs.Limits.{most_search_steps}
use Rattle.index.specs.Layout.{rules_room}
use Rattle.seen.specs.Layout.{seen_room}
use Rattle.whole_table.specs.Layout.{reading_scratch}

-- First the outline of the hiproof so far, `outline_end` of crate outline: a term that is begun adds at most one field, of three bytes. Behind it comes what writing the hiproof needs.

-- the index over the definitions, and the one over the rules
abbrev pub definitions_place : ℕ
definitions_place = seen_room

abbrev pub rules_place : ℕ
rules_place = reading_scratch

-- Then the arena, for lists of goals and for nodes, one after the other. No node lies at 0, so that 0 can say that there is none.
abbrev pub arena_low : ℕ
arena_low = rules_place + rules_room

-- a node
abbrev pub node_size : ℕ
node_size = 26

-- what a term that is begun can add: three nodes of a tensor, and its joined list
abbrev pub step_room : ℕ
step_room = 3 * node_size + 512

-- room for the job's 256 goals, and for each step
abbrev pub arena_end : ℕ
arena_end = arena_low + 512 + step_room * most_search_steps

-- last, the hiproof that was found: a field has at most five bytes
abbrev pub space_end : ℕ
space_end = arena_end + 5 * most_search_steps
