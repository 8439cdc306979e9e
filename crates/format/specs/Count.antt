-- Document 02, P3: "the count becomes one loop over the term's bytes". The headers of a term's fields stand one behind the other, so the loop goes from each to the next; what it comes to is `fields` (Terms).
use Rattle.std.specs.Prelude.{ℕ, zero, suc, ◌+◌, ◌≤◌, ◌<◌, ◌≡◌, List, get_or}
use Rattle.format.specs.Tags.{least_of}

-- The place behind a header and the values in front of the inner terms: the smallest contents that a tag may have are these values.
abbrev pub next_header : List ℕ → (at : ℕ) → ℕ
next_header s at = at + 3 + least_of (get_or s at 0)

-- the tag of a term: document 01, "one term of tags 16 to 24"
abbrev pub OfTerm : (tag : ℕ) → Type 0
OfTerm tag = (16 ≤ tag) × (tag < 25)

-- From a place to an end there are so many headers of term fields, each behind the values of the one before.
unfoldable pub Counted : List ℕ → (at end count : ℕ) → Type 0
Counted s at end zero = at ≡ end
Counted s at end (suc n) = OfTerm (get_or s at 0) × Counted s (next_header s at) end n
