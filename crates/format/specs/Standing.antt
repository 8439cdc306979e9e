-- What it is for a term to stand at a place of a file: how code that walks over bytes speaks of terms.
use Rattle.std.specs.Prelude.{ℕ, ◌+◌, ◌≤◌, ◌≡◌, List, length, get_or}
use Rattle.words.specs.Word.{word}
use Rattle.format.specs.Terms.{Term, atomic, id, label, sequence, tensor, empty, alternation, assert, defined, size}

-- the header at a place has that tag and that length, and its contents end within the file
pub record Head (s : List ℕ) (at tag len : ℕ) : Type 0 where
  pub tag_is : get_or s at 0 ≡ tag
  pub length_is : word s (at + 1) ≡ len
  pub inside : at + 3 + len ≤ length s

-- the fields of a term, each with its tag, its length and its value, stand from a place on
unfoldable pub Stands : List ℕ → (at : ℕ) → Term → Type 0
Stands s at (atomic a) = Head s at 16 2 × (word s (at + 3) ≡ a.0)
Stands s at id = Head s at 17 0
Stands s at (label l t) = Head s at 18 (2 + size t) × (word s (at + 3) ≡ l.0) × Stands s (at + 5) t
Stands s at (sequence t u) = Head s at 19 (size t + size u) × Stands s (at + 3) t × Stands s (at + 3 + size t) u
Stands s at (tensor t u) = Head s at 20 (size t + size u) × Stands s (at + 3) t × Stands s (at + 3 + size t) u
Stands s at empty = Head s at 21 0
Stands s at (alternation t u) = Head s at 22 (size t + size u) × Stands s (at + 3) t × Stands s (at + 3 + size t) u
Stands s at (assert γ) = Head s at 23 2 × (word s (at + 3) ≡ γ.0)
Stands s at (defined n) = Head s at 24 2 × (word s (at + 3) ≡ n.0)
