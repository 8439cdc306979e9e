-- The region behind those of crate input_arities in the work space of check and flatten; and what marks a frame.
use Rattle.std.specs.Prelude.{ℕ, ◌+◌}
use Rattle.index.specs.Layout.{rules_room}
use Rattle.input_arities.specs.Layout.{arities_end}

-- the index over the rules
abbrev pub index_end : ℕ
index_end = arities_end + rules_room

-- Added to a place on the stacks in the frame of a tensor that waits for its right term: no place is as large.
abbrev pub began : ℕ
began = 32768
