-- Document 01, "What the bytes bring about": "In each file: 1, then field by field in byte order".
use Rattle.std.specs.Prelude.{cond, List, ℕ, ltb, length}
use Rattle.format.specs.Limits.{most_bytes}
use Rattle.format.specs.Refusals.{InputTooLong}
use Rattle.format.specs.Results.{Result, refused}

-- "1: input over 65,535 bytes"; else what follows
abbrev pub of_size : {A : Type 0} → List ℕ → Result A → Result A
of_size s x = cond (ltb most_bytes (length s)) (refused InputTooLong 0) x
