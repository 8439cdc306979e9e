-- The arities of the left terms of tensors, in the order in which the walk begins the tensors, which is that of their places.
use Rattle.std.specs.Prelude.{ℕ, ◌+◌, ◌*◌, ◌≤◌, ◌≡◌, List, [], ◌∷◌, length}
use Rattle.words.specs.Word.{word}
use Rattle.words.specs.Kept.{Kept}
use Rattle.format.specs.Terms.{Term, atomic, id, label, sequence, tensor, empty, alternation, assert, defined}
use Rattle.hitac.specs.Hiproofs.{input_arity}
use Rattle.input_arities.specs.Layout.{frames_end, arities_end}

-- those of a term's tensors, before others
unfoldable pub arities : Term → List ℕ → List ℕ
arities (atomic a) xs = xs
arities id xs = xs
arities (label l t) xs = arities t xs
arities (sequence t u) xs = arities t (arities u xs)
arities (tensor t u) xs = input_arity t ∷ arities t (arities u xs)
arities empty xs = xs
arities (alternation t u) xs = xs
arities (assert γ) xs = xs
arities (defined n) xs = xs

-- values that stand from a place on, two bytes each
unfoldable pub Listed : List ℕ → (at : ℕ) → List ℕ → Type 0
Listed w at [] = Unit {0}
Listed w at (x ∷ xs) = (word w at ≡ x) × Listed w (at + 2) xs

-- the arities of the tensors still to begin
pub record Ahead (w : List ℕ) (at : ℕ) (xs : List ℕ) : Type 0 where
  pub listed : Listed w at xs
  pub above : frames_end ≤ at
  pub below : at + 2 * length xs ≤ arities_end

-- what the pass over a term leaves
pub record Noted (w w' : List ℕ) (t : Term) : Type 0 where
  pub ahead : Ahead w' frames_end (arities t [])
  pub kept : Kept w w' 0 arities_end
