-- The regions of the work space of check and flatten, one behind the other: the two stacks of values, from 0 on; the frames of the terms that wait; the
-- arities of the left terms of tensors. Behind them stands the index over the table's rules.
use Rattle.std.specs.Prelude.{ℕ, ◌+◌, ◌*◌, ◌-◌, ◌/◌}
use Rattle.format.specs.Limits.{most_term_fields, most_goals}

-- a term of k fields has at most (k + 1) / 2 atomics and (k - 1) / 2 fields with two inner terms
abbrev pub most_atomics : ℕ
most_atomics = most_term_fields / 2

abbrev pub most_pairs : ℕ
most_pairs = (most_term_fields - 1) / 2

-- Two bytes for each value: the goals of a file, and seven more for each atomic, which takes one and gives at most eight.
abbrev pub stack_end : ℕ
stack_end = (most_goals + 7 * most_atomics) * 2

-- four bytes for each term that waits
abbrev pub frames_end : ℕ
frames_end = stack_end + 4 * most_pairs

-- two bytes for each tensor
abbrev pub arities_end : ℕ
arities_end = frames_end + 2 * most_pairs
