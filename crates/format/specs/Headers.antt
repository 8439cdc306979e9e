-- Document 01, "What the bytes bring about": the header of a field, "header 2, 3, field limit 5, contents 2, 4".
use Rattle.std.specs.Prelude.{ℕ, ◌+◌, Bool, cond, List, ltb, get_or}
use Rattle.words.specs.Word.{word}
use Rattle.format.specs.Refusals.{FieldTorn, TagNotAllowed, LimitPassed, LengthWrong}
use Rattle.format.specs.Results.{Result, gives, refused}
use Rattle.format.specs.Tags.{kind_of, length_fits}

-- "A field is one tag byte, two length bytes (high byte first), then that many contents bytes."
pub record Header : Type 0 where
  pub tag : ℕ
  pub len : ℕ

abbrev pub header : (tag len : ℕ) → Header
header tag len = record { tag = tag; len = len }

-- The header at a place, within what ends at `end`; kinds from low to high may stand there; `full` says that no more fields of its kind may come.
unfoldable pub header_at : List ℕ → (at end low high : ℕ) → (full : Bool) → Result Header
header_at s at end low high full =
    let tag = get_or s at 0 in
    let len = word s (at + 1) in
    cond (ltb end (at + 3)) (refused FieldTorn at)
    (cond (ltb (kind_of tag) low) (refused TagNotAllowed at)
    (cond (ltb high (kind_of tag)) (refused TagNotAllowed at)
    (cond full (refused LimitPassed at)
    (cond (ltb end (at + 3 + len)) (refused FieldTorn at)
    (cond (length_fits tag len) (gives (header tag len))
    (refused LengthWrong at))))))
