-- Values of 24 and of 32 bits and headers of fields in work space.
use Rattle.std.specs.Prelude.{ℕ, ◌+◌, ◌*◌, ◌/◌, ◌%◌, List, get_or, set}
use Rattle.words.specs.Word.{word, put_word}

-- a value of 24 bits, low byte first
unfoldable pub triple : List ℕ → (at : ℕ) → ℕ
triple w at = get_or w at 0 + get_or w (at + 1) 0 * 256 + get_or w (at + 2) 0 * 65536

-- the same stored
unfoldable pub put_triple : List ℕ → (at value : ℕ) → List ℕ
put_triple w at v = set (set (set w at (v % 256)) (at + 1) (v / 256 % 256)) (at + 2) (v / 256 / 256)

-- a value of 32 bits, high byte first
unfoldable pub long : List ℕ → (at : ℕ) → ℕ
long w at = word w at * 65536 + word w (at + 2)

-- the same stored
unfoldable pub put_long : List ℕ → (at value : ℕ) → List ℕ
put_long w at v = put_word (put_word w at (v / 65536)) (at + 2) (v % 65536)

-- a field's header
unfoldable pub put_header : List ℕ → (at tag len : ℕ) → List ℕ
put_header w at tag len = set (put_word w (at + 1) len) at tag
