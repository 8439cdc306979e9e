-- The terms that wait while an inner term is walked, innermost first, and what the whole walk comes to from there.
use Rattle.std.specs.Prelude.{ℕ, ◌+◌, List, [], ◌∷◌}
use Rattle.format.specs.Results.{Result, and_then}
use Rattle.format.specs.Terms.{Term, fields}
use Rattle.hitac.specs.Hiproofs.{atomics}
use Rattle.input_arities.specs.Arities.{arities}
use Rattle.walks.specs.Walks.{Out, Act, joined_values, walk_of}

-- a sequence or a tensor that waits for its left term, with its right term and that one's place, in a tensor with the values that are left for it; a tensor that waits for its right term, with the values that its left term gave. A tensor's own place is that of 22.
pub data Waiting : Type 0 where
  sequence_left : (right : Term) (next : ℕ) → Waiting
  tensor_left : (place : ℕ) (right : Term) (next : ℕ) (rest : List ℕ) → Waiting
  tensor_right : (place : ℕ) (gave : List ℕ) → Waiting

-- what the whole walk comes to, from what the current term comes to
unfoldable pub resumed : {C : Type 0} → Act C → List Waiting → Result (Out C) → Result (Out C)
resumed act [] r = r
resumed act (sequence_left u p ∷ f) r = resumed act f (and_then r (λ o. walk_of act u p o.made o.values))
resumed act (tensor_left q u p g ∷ f) r = resumed act f (and_then r (λ o. and_then (walk_of act u p o.made g) (joined_values q o.values)))
resumed act (tensor_right q h ∷ f) r = resumed act f (and_then r (joined_values q h))

-- the atomic fields that are still to begin in the terms that wait
unfoldable pub pending : List Waiting → ℕ
pending [] = 0
pending (sequence_left u p ∷ f) = atomics u + pending f
pending (tensor_left q u p g ∷ f) = atomics u + pending f
pending (tensor_right q h ∷ f) = pending f

-- the arities of the tensors that are still to begin in them
unfoldable pub later : List Waiting → List ℕ
later [] = []
later (sequence_left u p ∷ f) = arities u (later f)
later (tensor_left q u p g ∷ f) = arities u (later f)
later (tensor_right q h ∷ f) = later f

-- fields of the file that the terms that wait account for: each its own and those of the inner term that is not current, at least one
unfoldable pub weight : List Waiting → ℕ
weight [] = 0
weight (sequence_left u p ∷ f) = 1 + fields u + weight f
weight (tensor_left q u p g ∷ f) = 1 + fields u + weight f
weight (tensor_right q h ∷ f) = 2 + weight f
