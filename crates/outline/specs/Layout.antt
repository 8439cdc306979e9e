-- Where things lie in the work space: the outline at its beginning, then the sizes of the terms that are written. The hiproof ends wherever the caller says.
use Rattle.std.specs.Prelude.{ℕ}

-- three bytes for each of 4,096 fields
abbrev pub outline_end : ℕ
outline_end = 12288

-- two bytes for each of 4,096 terms
abbrev pub sizes_end : ℕ
sizes_end = 20480

-- no field has more than five bytes of its own (`outline_size`)
abbrev pub most_size : ℕ
most_size = 20480
