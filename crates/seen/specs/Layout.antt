-- The room that a table of what was seen takes in the work space.
use Rattle.std.specs.Prelude.{ℕ}

-- a table of what was seen: four bits for each value of two bytes
abbrev pub seen_room : ℕ
seen_room = 32768
