-- The room that a set of rule numbers takes in the work space: one bit for each of document 01's rules, then the count of the bits set in two bytes.
use Rattle.std.specs.Prelude.{ℕ, ◌+◌, ◌/◌}
use Rattle.format.specs.Limits.{most_rules}

-- a bit for each rule
abbrev pub set_bits : ℕ
set_bits = most_rules

-- eight of them in a byte
abbrev pub bits_room : ℕ
bits_room = set_bits / 8

-- and the count behind them
abbrev pub set_room : ℕ
set_room = bits_room + 2
