-- Document 01, "Fields": "one tag byte, two length bytes (high byte first)".
use Rattle.std.specs.Prelude.{ℕ, List, ◌∷◌}
use Rattle.format.specs.Encoding.{word_bytes}

-- a field's tag and length
abbrev pub header : (tag len : ℕ) → List ℕ
header tag len = tag ∷ word_bytes len
