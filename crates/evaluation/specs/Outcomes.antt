-- Document 01, "Running a tactic", and document 02, P12: how a term ends in a run, and what each form gives for its goals.
use Rattle.std.specs.Prelude.{ℕ, ◌+◌, Bool, cond, List, [], ◌∷◌, ◌++◌, leb, length, take, drop}
use Rattle.std.proofs.Math.Option.{Option, none, some}
use Rattle.format.specs.declared.values.RuleName.{RuleName}
use Rattle.format.specs.declared.values.Goal.{Goal}
use Rattle.format.specs.declared.values.Label.{Label}
use Rattle.format.specs.Limits.{most_joined, most_held}
use Rattle.format.specs.declared.refusals.Cause.{Cause}
use Rattle.format.specs.declared.refusals.Cause.TheVariants.{JoinedTooLong, FieldsTooMany}
use Rattle.format.specs.Terms.{Term, label, sequence, tensor, fields}
use Rattle.tables.specs.Tables.{Table}
use Rattle.tables.specs.Lookup.{FoundRule, find_rule, matches}

-- With a hiproof and the goals remaining, by failing, or by a limit of the run (22, from P12 40); after a limit no alternative is tried.
pub data Ending : Type 0 where
  proved : Term → List Goal → Ending
  failed : Ending
  ended : Cause → Ending

-- the premises of a rule that was found
abbrev pub found_premises : Option FoundRule → Option (List Goal)
found_premises none = none
found_premises (some r) = some r.premises

-- what a form that takes exactly one goal gives for a list
abbrev pub on_one : (Goal → Option (List Goal)) → List Goal → Option (List Goal)
on_one f [] = none
on_one f (γ ∷ []) = f γ
on_one f (γ ∷ δ ∷ g) = none

-- "atomic: exactly one goal, with a rule of that name for it; gives the premises in order"
abbrev pub rule_gives : Table → RuleName → List Goal → Option (List Goal)
rule_gives T a g = on_one (λ γ. found_premises (find_rule T a γ)) g

-- "id: one goal, given back"
abbrev pub one_goal : List Goal → Option (List Goal)
one_goal g = on_one (λ γ. some (γ ∷ [])) g

-- "Empty: none, gives none"
abbrev pub no_goal : List Goal → Option (List Goal)
no_goal [] = some []
no_goal (γ ∷ g) = none

-- "assert succeeds, as id, on one goal equal to its own"
abbrev pub assert_gives : Table → Goal → List Goal → Option (List Goal)
assert_gives T pattern g = on_one (λ γ. cond (matches T pattern γ) (some (γ ∷ [])) none) g

-- the goals of a tensor's two sides
pub record Split : Type 0 where
  pub left_goals : List Goal
  pub right_goals : List Goal

-- "the first n goals (n is the left's arity) to the left, the others to the right"
abbrev pub split_at : ℕ → List Goal → Split
split_at n g = record { left_goals = take n g; right_goals = drop n g }

-- "A tensor fails if its left has none or has more than there are goals"
abbrev pub split_by : Option ℕ → List Goal → Option Split
split_by none g = none
split_by (some n) g = cond (leb n (length g)) (some (split_at n g)) none

-- P12: "40 .. a finished term that makes the held fields more than 4,096, at that moment": a term that finishes while so many are held outside it
abbrev pub within : (outside : ℕ) → Term → List Goal → Ending
within k s g = cond (leb (k + fields s) most_held) (proved s g) (ended FieldsTooMany)

-- "a term that cannot take its goals .. fails"; else it leaves its field
abbrev pub finished : (outside : ℕ) → Term → Option (List Goal) → Ending
finished k s none = failed
finished k s (some g) = within k s g

-- "each other term leaves its own field": a label, once its inner term ended
abbrev pub in_label : (outside : ℕ) → Label → Ending → Ending
in_label k l (proved s g) = within k (label l s) g
in_label k l failed = failed
in_label k l (ended c) = ended c

-- a sequence, once its left gave a proof and its right ended
abbrev pub after_left : (outside : ℕ) → Term → Ending → Ending
after_left k s (proved r g) = within k (sequence s r) g
after_left k s failed = failed
after_left k s (ended c) = ended c

-- "A tensor whose joined list has more than 256 goals ends the walk with 22"
abbrev pub joined_fits : List Goal → Bool
joined_fits g = leb (length g) most_joined

-- a tensor, once its left gave a proof and its right ended: "the two lists joined", "22 included", and 40 "after 22 at the same term"
abbrev pub beside_left : (outside : ℕ) → Term → List Goal → Ending → Ending
beside_left k s g (proved r h) = cond (joined_fits (g ++ h)) (within k (tensor s r) (g ++ h)) (ended JoinedTooLong)
beside_left k s g failed = failed
beside_left k s g (ended c) = ended c
