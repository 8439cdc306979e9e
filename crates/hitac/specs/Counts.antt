-- Document 01, "Flat derivations": the counts of "one for one".
use Rattle.std.specs.Prelude.{ℕ, ◌+◌, Bool, true, cond, ◌&&◌, List, [], ◌∷◌, take, drop}
use Rattle.format.specs.declared.values.RuleName.{RuleName}
use Rattle.format.specs.declared.values.Goal.{Goal}
use Rattle.format.specs.Results.{Result, gives, refused}
use Rattle.format.specs.Terms.{Term, atomic, id, label, sequence, tensor, empty, alternation, assert, defined}
use Rattle.tables.specs.Tables.{Table}
use Rattle.tables.specs.Lookup.{same_name, same_goal}
use Rattle.files.specs.Derivations.{Entry, use_entry, open_entry}
use Rattle.hitac.specs.Hiproofs.{input_arity}
use Rattle.hitac.specs.Walk.{walk}

-- one for a test that holds
abbrev pub one_if : Bool → ℕ
one_if b = cond b 1 0

-- how many use entries the test c picks
abbrev pub uses : (RuleName → Goal → Bool) → List Entry → ℕ
uses c [] = 0
uses c (use_entry a γ ∷ es) = one_if (c a γ) + uses c es
uses c (open_entry γ ∷ es) = uses c es

-- "for every rule name and goal": the test that picks the two
abbrev pub this_use : RuleName → Goal → RuleName → Goal → Bool
this_use a γ b δ = same_name a b && same_goal γ δ

-- the test that picks every use
abbrev pub every_use : RuleName → Goal → Bool
every_use b δ = true

-- the goals that a walk gives; none where it is refused
abbrev pub given_goals : Result (List Goal) → List Goal
given_goals (gives g) = g
given_goals (refused c p) = []

-- one where an atomic takes its goal and c picks that goal
abbrev pub takes_goal : (Goal → Bool) → List Goal → ℕ
takes_goal c [] = 0
takes_goal c (γ ∷ []) = one_if (c γ)
takes_goal c (γ ∷ δ ∷ g) = 0

-- "as many uses carry the two as atomic fields of that name take that goal in the walk": the latter count.
-- A sequence's right term takes what its left gave, which does not depend on the place. The last three forms stand in no hiproof.
unfoldable pub taken : (RuleName → Goal → Bool) → Table → Term → List Goal → ℕ
taken c T (atomic a) g = takes_goal (c a) g
taken c T id g = 0
taken c T (label l s) g = taken c T s g
taken c T (sequence s t) g = taken c T s g + taken c T t (given_goals (walk T s 0 g))
taken c T (tensor s t) g = taken c T s (take (input_arity s) g) + taken c T t (drop (input_arity s) g)
taken c T empty g = 0
taken c T (alternation s t) g = 0
taken c T (assert γ) g = 0
taken c T (defined n) g = 0
