-- How a term is written, by the tag of its field: where brackets are needed, and the bytes of each mark.
use Rattle.std.specs.Prelude.{ℕ, zero, suc, ◌+◌, ◌/◌, ◌%◌, Bool, false, cond, List, [], ◌∷◌, ◌++◌, eqb, ltb}
use Rattle.format.specs.Terms.{Term}
use Rattle.notation.specs.Written.{decimal, marks_of, text_of}
use Rattle.notation.specs.Signs.{is_pair, rank_tag}

-- the text of a term, where a sign looser than `binds` needs brackets, and where a sign follows or not
unfoldable pub text_in : Term → (binds : ℕ) → (followed : Bool) → List ℕ
text_in t b f = text_of (marks_of t b f)

-- the byte of a pair's sign
unfoldable pub byte_of : ℕ → ℕ
byte_of k = cond (eqb k 20) 42 (cond (eqb k 22) 124 59)

-- whether the term of a tag stands in brackets
unfoldable pub wraps_tag : (tag binds : ℕ) → (followed : Bool) → Bool
wraps_tag k b f = cond (eqb k 18) f (cond (is_pair k) (ltb (rank_tag k) b) false)

-- the letter of a leaf with a number
unfoldable pub letter_of : ℕ → ℕ
letter_of k = cond (eqb k 16) 97 (cond (eqb k 23) 63 84)

-- a sign with its blanks
abbrev pub sign_text : (tag : ℕ) → List ℕ
sign_text k = 32 ∷ byte_of k ∷ 32 ∷ []

abbrev pub label_text : (value : ℕ) → List ℕ
label_text v = (91 ∷ decimal v) ++ (93 ∷ [])

-- a leaf of a value, if it has one
unfoldable pub leaf_text : (tag value : ℕ) → List ℕ
leaf_text k v = cond (eqb k 17) (105 ∷ 100 ∷ []) (cond (eqb k 21) (60 ∷ 62 ∷ []) (letter_of k ∷ decimal v))

-- the bytes of its field
unfoldable pub leaf_size : (tag : ℕ) → ℕ
leaf_size k = cond (eqb k 17) 3 (cond (eqb k 21) 3 5)

-- so many of a number's lowest digits; all of them are its decimal form
unfoldable pub low_digits : (count : ℕ) → ℕ → List ℕ
low_digits zero v = []
low_digits (suc n) v = low_digits n (v / 10) ++ ((48 + v % 10) ∷ [])
