-- The room that reading a table takes in the work space.
use Rattle.std.specs.Prelude.{ℕ, ◌+◌}
use Rattle.index.specs.Layout.{definitions_room}
use Rattle.seen.specs.Layout.{seen_room}

-- what reading a table takes besides the index over the rules
abbrev pub reading_scratch : ℕ
reading_scratch = seen_room + definitions_room
