-- Fields in work space.
use Rattle.std.specs.Prelude.{ℕ, ◌+◌, ◌≡◌, List, length}
use Rattle.words.specs.Word.{put_word}
use Rattle.tactics.specs.Memory.{Same}
use Rattle.tactics.specs.Numbers.{put_header}
use Rattle.outline.specs.Layout.{outline_end, sizes_end}

-- a field with a value: its header, and the value behind it
abbrev pub put_valued : List ℕ → (at tag len value : ℕ) → List ℕ
put_valued w at tag len v = put_word (put_header w at tag len) (at + 3) v

-- What the writing of fields leaves as it was: all but the sizes and the bytes from one place up to another.
pub record Around (from to : ℕ) (w v : List ℕ) : Type 0 where
  pub same_length : length v ≡ length w
  pub outline : Same 0 outline_end w v
  pub between : Same sizes_end from w v
  pub behind : Same to (length w) w v
