-- Document 01, "Checking a hiproof": the walk of a hiproof over its goals.
use Rattle.std.specs.Prelude.{ℕ, ◌+◌, Bool, cond, List, [], ◌∷◌, ◌++◌, ltb, length, take, drop}
use Rattle.std.proofs.Math.Option.{Option, none, some}
use Rattle.format.specs.declared.values.Goal.{Goal}
use Rattle.format.specs.Limits.{most_joined}
use Rattle.format.specs.declared.refusals.Cause.{Cause}
use Rattle.format.specs.declared.refusals.Cause.TheVariants.{RuleMissing, GoalCountWrong, GoalsTooFew, JoinedTooLong}
use Rattle.format.specs.Results.{Result, gives, refused, and_then}
use Rattle.format.specs.Terms.{Term, atomic, id, label, sequence, tensor, empty, alternation, assert, defined, size}
use Rattle.tables.specs.Tables.{Table}
use Rattle.tables.specs.Lookup.{FoundRule, find_rule}
use Rattle.hitac.specs.Hiproofs.{input_arity}

-- "exactly one goal"; else document 02, P5: "34, an atomic, id or label without exactly one goal"
unfoldable pub on_one_goal : (place : ℕ) → (Goal → Result (List Goal)) → List Goal → Result (List Goal)
on_one_goal p next [] = refused GoalCountWrong p
on_one_goal p next (γ ∷ []) = next γ
on_one_goal p next (γ ∷ δ ∷ g) = refused GoalCountWrong p

-- "Empty: none, gives none."; 34 is for "an empty with any" too
unfoldable pub on_no_goal : (place : ℕ) → List Goal → Result (List Goal)
on_no_goal p [] = gives []
on_no_goal p (γ ∷ g) = refused GoalCountWrong p

-- "with a rule of that name for it; gives the premises in order": else the refusal
unfoldable pub premises_or : Cause → (place : ℕ) → Option FoundRule → Result (List Goal)
premises_or c p none = refused c p
premises_or c p (some r) = gives r.premises

-- "A tensor whose joined list has more than 256 goals ends the walk with 22."
unfoldable pub too_long : List Goal → Bool
too_long g = ltb most_joined (length g)

unfoldable pub joined : (place : ℕ) → List Goal → Result (List Goal)
joined p g = cond (too_long g) (refused JoinedTooLong p) (gives g)

-- "A term takes a goal list and gives one": the term whose field is at place p, on the goals g.
-- An inner term's field begins behind the header and the values in front of it: 5 bytes in a label, 3 in a sequence or tensor.
-- "35, a tensor with fewer goals than its left part's arity", before that part is walked; "20 stays for one goal without a rule of that name".
-- The last three forms stand in no hiproof; should one be walked, it is refused like a term with other goals than it takes.
unfoldable pub walk : Table → Term → (place : ℕ) → List Goal → Result (List Goal)
walk T (atomic a) p g = on_one_goal p (λ γ. premises_or RuleMissing p (find_rule T a γ)) g
walk T id p g = on_one_goal p (λ γ. gives (γ ∷ [])) g
walk T (label l s) p g = on_one_goal p (λ γ. walk T s (p + 5) (γ ∷ [])) g
walk T (sequence s t) p g = and_then (walk T s (p + 3) g) (λ h. walk T t (p + 3 + size s) h)
walk T (tensor s t) p g =
    cond (ltb (length g) (input_arity s))
    (refused GoalsTooFew p)
    (and_then (walk T s (p + 3) (take (input_arity s) g))
    (λ h. and_then (walk T t (p + 3 + size s) (drop (input_arity s) g)) (λ k. joined p (h ++ k))))
walk T empty p g = on_no_goal p g
walk T (alternation s t) p g = refused GoalCountWrong p
walk T (assert γ) p g = refused GoalCountWrong p
walk T (defined n) p g = refused GoalCountWrong p
