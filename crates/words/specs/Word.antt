-- Document 01, "Fields": "Values in contents are 16 bits wide, high byte first."
use Rattle.std.specs.Prelude.{ℕ, ◌+◌, ◌*◌, ◌/◌, ◌%◌, List, get_or, set}

-- the value at a place of a list of bytes
unfoldable pub word : List ℕ → (at : ℕ) → ℕ
word s at = get_or s at 0 * 256 + get_or s (at + 1) 0

-- the list with a value stored at a place
unfoldable pub put_word : List ℕ → (at value : ℕ) → List ℕ
put_word s at v = set (set s at (v / 256)) (at + 1) (v % 256)
