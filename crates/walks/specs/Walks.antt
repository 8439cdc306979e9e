-- The walk of document 01, "Checking a hiproof", over values, for any way in which the terms without inner terms act, and any type of what they make beside the values.
use Rattle.std.specs.Prelude.{ℕ, ◌+◌, cond, List, [], ◌∷◌, ◌++◌, ltb, length, take, drop}
use Rattle.format.specs.Limits.{most_joined}
use Rattle.format.specs.declared.refusals.Cause.TheVariants.{GoalCountWrong, GoalsTooFew, JoinedTooLong}
use Rattle.format.specs.Results.{Result, gives, refused, and_then}
use Rattle.format.specs.Terms.{Term, atomic, id, label, sequence, tensor, empty, alternation, assert, defined, size}
use Rattle.hitac.specs.Hiproofs.{input_arity}

-- what a term leaves: what the walk has made so far, cells in the flattener and rule numbers in the checker, and the values given
pub record Out (C : Type 0) : Type 0 where
  pub made : List C
  pub values : List ℕ

abbrev pub out : {C : Type 0} → List C → List ℕ → Out C
out A v = record { made = A; values = v }

-- what a term at a place comes to, on what was made so far and the values taken
abbrev pub Act : Type 0 → Type 0
Act C = Term → (at : ℕ) → List C → List ℕ → Result (Out C)

-- "exactly one goal"
unfoldable pub on_one_value : {C : Type 0} → (place : ℕ) → (ℕ → Result (Out C)) → List ℕ → Result (Out C)
on_one_value p next [] = refused GoalCountWrong p
on_one_value p next (n ∷ []) = next n
on_one_value p next (n ∷ m ∷ ns) = refused GoalCountWrong p

-- "A tensor whose joined list has more than 256 goals ends the walk with 22."
unfoldable pub joined_values : {C : Type 0} → (place : ℕ) → List ℕ → Out C → Result (Out C)
joined_values p h o = cond (ltb most_joined (length (h ++ o.values))) (refused JoinedTooLong p) (gives (out o.made (h ++ o.values)))

-- The walk: labels, sequences and tensors as in hitac's `walk`; every other term acts.
unfoldable pub walk_of : {C : Type 0} → Act C → Act C
walk_of act (atomic a) p A ns = act (atomic a) p A ns
walk_of act id p A ns = act id p A ns
walk_of act (label l s) p A ns = on_one_value p (λ n. walk_of act s (p + 5) A (n ∷ [])) ns
walk_of act (sequence s t) p A ns = and_then (walk_of act s (p + 3) A ns) (λ o. walk_of act t (p + 3 + size s) o.made o.values)
walk_of act (tensor s t) p A ns =
    cond (ltb (length ns) (input_arity s))
    (refused GoalsTooFew p)
    (and_then (walk_of act s (p + 3) A (take (input_arity s) ns))
    (λ o. and_then (walk_of act t (p + 3 + size s) o.made (drop (input_arity s) ns)) (joined_values p o.values)))
walk_of act empty p A ns = act empty p A ns
walk_of act (alternation s t) p A ns = act (alternation s t) p A ns
walk_of act (assert γ) p A ns = act (assert γ) p A ns
walk_of act (defined n) p A ns = act (defined n) p A ns
