-- The room that an index takes in the work space: two bytes for each head, then five for each node, as many as document 01's limits let in.
use Rattle.std.specs.Prelude.{ℕ, ◌+◌, ◌*◌}
use Rattle.format.specs.Limits.{most_rules, most_definitions}

-- as many as there are rules at most. A link of twelve bits says which.
abbrev pub most_nodes : ℕ
most_nodes = most_rules

-- the lowest ten digits of a key say its head
abbrev pub heads : ℕ
heads = 1024

abbrev pub heads_room : ℕ
heads_room = 2 * heads

-- an index over the rules
abbrev pub rules_room : ℕ
rules_room = heads_room + 5 * most_nodes

-- an index over the definitions
abbrev pub definitions_room : ℕ
definitions_room = heads_room + 5 * most_definitions
