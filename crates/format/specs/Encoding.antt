-- Document 01, "Fields": the bytes of values, fields, terms and goal lists.
use Rattle.std.specs.Prelude.{ℕ, ◌/◌, ◌%◌, ◌<◌, List, [], ◌∷◌, ◌++◌, length, get_or}
use Rattle.format.specs.declared.values.Goal.{Goal}
use Rattle.format.specs.Terms.{Term, atomic, id, label, sequence, tensor, empty, alternation, assert, defined}

-- every number of the list is a byte
abbrev pub Bytes : List ℕ → Type 0
Bytes s = (i : ℕ) → get_or s i 0 < 256

-- a value of 16 bits, high byte first
abbrev pub word_bytes : ℕ → List ℕ
word_bytes v = v / 256 ∷ v % 256 ∷ []

-- "A field is one tag byte, two length bytes (high byte first), then that many contents bytes."
abbrev pub field_bytes : (tag : ℕ) → (contents : List ℕ) → List ℕ
field_bytes tag contents = tag ∷ word_bytes (length contents) ++ contents

-- the field of a term, tags 16 to 24
unfoldable pub term_bytes : Term → List ℕ
term_bytes (atomic a) = field_bytes 16 (word_bytes a.0)
term_bytes id = field_bytes 17 []
term_bytes (label l t) = field_bytes 18 (word_bytes l.0 ++ term_bytes t)
term_bytes (sequence t u) = field_bytes 19 (term_bytes t ++ term_bytes u)
term_bytes (tensor t u) = field_bytes 20 (term_bytes t ++ term_bytes u)
term_bytes empty = field_bytes 21 []
term_bytes (alternation t u) = field_bytes 22 (term_bytes t ++ term_bytes u)
term_bytes (assert γ) = field_bytes 23 (word_bytes γ.0)
term_bytes (defined n) = field_bytes 24 (word_bytes n.0)

-- goals one behind the other
unfoldable pub goal_bytes : List Goal → List ℕ
goal_bytes [] = []
goal_bytes (γ ∷ g) = word_bytes γ.0 ++ goal_bytes g

-- the field of a goal list, tag 3
abbrev pub goal_list_bytes : List Goal → List ℕ
goal_list_bytes g = field_bytes 3 (goal_bytes g)

-- "Values in contents are 16 bits wide": of every value of a goal list and of a term
unfoldable pub GoalValues : List Goal → Type 0
GoalValues [] = Unit {0}
GoalValues (γ ∷ g) = (γ.0 < 65536) × GoalValues g

unfoldable pub TermValues : Term → Type 0
TermValues (atomic a) = a.0 < 65536
TermValues id = Unit {0}
TermValues (label l t) = (l.0 < 65536) × TermValues t
TermValues (sequence t u) = TermValues t × TermValues u
TermValues (tensor t u) = TermValues t × TermValues u
TermValues empty = Unit {0}
TermValues (alternation t u) = TermValues t × TermValues u
TermValues (assert γ) = γ.0 < 65536
TermValues (defined n) = n.0 < 65536
