-- The outline of a hiproof: for each of its fields, in their order, the tag and the value (0 for a field without one). It says no lengths, so that a search can put one field more behind the others before it knows what the field will enclose.
-- Alternation, assert and defined tactics stand in no hiproof: their clause is there to make the function total.
use Rattle.std.specs.Prelude.{ℕ, List, [], ◌∷◌, ◌++◌}
use Rattle.format.specs.Terms.{Term, atomic, id, label, sequence, tensor, empty, alternation, assert, defined}
use Rattle.format.specs.Encoding.{word_bytes}

unfoldable pub outline_of : Term → List ℕ
outline_of (atomic a) = 16 ∷ word_bytes a.0
outline_of id = 17 ∷ word_bytes 0
outline_of (label l t) = 18 ∷ (word_bytes l.0 ++ outline_of t)
outline_of (sequence s r) = 19 ∷ (word_bytes 0 ++ (outline_of s ++ outline_of r))
outline_of (tensor s r) = 20 ∷ (word_bytes 0 ++ (outline_of s ++ outline_of r))
outline_of empty = 21 ∷ word_bytes 0
outline_of (alternation s r) = []
outline_of (assert γ) = []
outline_of (defined n) = []
