-- The region behind those of crate walks in the work space of check: the set of the rules used.
use Rattle.std.specs.Prelude.{ℕ, ◌+◌}
use Rattle.rule_set.specs.Layout.{set_room}
use Rattle.walks.specs.Layout.{index_end}

abbrev pub set_place : ℕ
set_place = index_end

abbrev pub set_end : ℕ
set_end = set_place + set_room
