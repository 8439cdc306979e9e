-- Documents 01 and 02: every limit that they name, each in one place.
use Rattle.std.specs.Prelude.{ℕ}

-- "1: input over 65,535 bytes"
abbrev pub most_bytes : ℕ
most_bytes = 65535

-- "At most 4,096 rules, 256 definitions, 4,096 term fields in a file, 4,096 uses, 256 opens"
abbrev pub most_rules : ℕ
most_rules = 4096

abbrev pub most_definitions : ℕ
most_definitions = 256

abbrev pub most_term_fields : ℕ
most_term_fields = 4096

abbrev pub most_uses : ℕ
most_uses = 4096

abbrev pub most_opens : ℕ
most_opens = 256

-- "goal list: 0 to 256 goals"
abbrev pub most_goals : ℕ
most_goals = 256

-- "A tensor whose joined list has more than 256 goals ends the walk with 22"
abbrev pub most_joined : ℕ
most_joined = 256

-- "an arity over 256 counts as none"
abbrev pub most_arity : ℕ
most_arity = 256

-- P12: "The budget goes up to 16,384 .. and 25 starts at 16,385"
abbrev pub most_steps : ℕ
most_steps = 16384

-- P12: "40 .. a finished term that makes the held fields more than 4,096"; a limit of its own, though a file may have as many term fields
abbrev pub most_held : ℕ
most_held = 4096

-- "28: over 2,048 entries when writing a proof"
abbrev pub most_entries : ℕ
most_entries = 2048

-- P13: "takes a height h, 1 to 64"
abbrev pub least_height : ℕ
least_height = 1

abbrev pub most_height : ℕ
most_height = 64

-- P13: "a budget up to 4,096, else 25"; a limit of its own, since P12 raises only the other
abbrev pub most_search_steps : ℕ
most_search_steps = 4096
