-- What a state of the search's machine holds, counted in term fields: at most as many as terms were begun.
use Rattle.std.specs.Prelude.{ℕ, suc, ◌+◌, ◌≤◌, List, [], ◌∷◌}
use Rattle.format.specs.declared.values.Goal.{Goal}
use Rattle.format.specs.Terms.{Term, fields}
use Rattle.search.specs.Machine.{Frame, labelled, sequence_left, sequence_right, tensor_left, tensor_right, Choice, or_else, next_split, Control, running, finished, nothing}

-- the waiting terms and the fields that they keep
unfoldable pub held : List Frame → ℕ
held [] = 0
held (labelled l ∷ k) = suc (held k)
held (sequence_left b u ∷ k) = suc (held k)
held (sequence_right s ∷ k) = suc (fields s + held k)
held (tensor_left b u h ∷ k) = suc (held k)
held (tensor_right s g ∷ k) = suc (fields s + held k)

-- at most so many, now and at every choice
unfoldable pub ChoicesWithin : (steps : ℕ) → List Choice → Type 0
ChoicesWithin n [] = Unit {0}
ChoicesWithin n (or_else b u g k ∷ c) = (held k ≤ n) × ChoicesWithin n c
ChoicesWithin n (next_split b t u g₁ g₂ k ∷ c) = (suc (held k) ≤ n) × ChoicesWithin n c

unfoldable pub FieldsWithin : (steps : ℕ) → Control → Type 0
FieldsWithin n (running b t g k c) = (held k ≤ n) × ChoicesWithin n c
FieldsWithin n (finished s g c) = (fields s ≤ n) × ChoicesWithin n c
FieldsWithin n nothing = Unit {0}
