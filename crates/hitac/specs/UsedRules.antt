-- Document 02, P6: "a proof's acceptance gives the count of different rules used, and the flat check gives the same count".
use Rattle.std.specs.Prelude.{ℕ, take, drop}
use Rattle.std.proofs.Math.Option.{Option, none, some}
use mathlib.Core.List.{List, [], ◌∷◌, ◌++◌, Memᴰ}
use Rattle.format.specs.declared.values.RuleName.{RuleName}
use Rattle.format.specs.declared.values.Goal.{Goal}
use Rattle.format.specs.Terms.{Term, atomic, id, label, sequence, tensor, empty, alternation, assert, defined}
use Rattle.tables.specs.Tables.{Table, HasRule, NumberedRule}
use Rattle.tables.specs.Lookup.{FoundRule, find_rule}
use Rattle.files.specs.Derivations.{Entry, use_entry, open_entry}
use Rattle.hitac.specs.Hiproofs.{input_arity}
use Rattle.hitac.specs.Walk.{walk}
use Rattle.hitac.specs.Reaches.{Reaches}
use Rattle.hitac.specs.Counts.{given_goals}

-- the number of the rule that was found; none where no rule was
unfoldable pub found_number : Option FoundRule → List ℕ
found_number none = []
found_number (some r) = r.number ∷ []

-- the look-up of an atomic, which is on one goal
unfoldable pub looked_up : Table → RuleName → List Goal → List ℕ
looked_up T a [] = []
looked_up T a (γ ∷ []) = found_number (find_rule T a γ)
looked_up T a (γ ∷ δ ∷ g) = []

-- the numbers of the rules that the walk of a hiproof over its goals looks up, in its order. The last three forms stand in no hiproof.
unfoldable pub walked_rules : Table → Term → List Goal → List ℕ
walked_rules T (atomic a) g = looked_up T a g
walked_rules T id g = []
walked_rules T (label l s) g = walked_rules T s g
walked_rules T (sequence s t) g = walked_rules T s g ++ walked_rules T t (given_goals (walk T s 0 g))
walked_rules T (tensor s t) g = walked_rules T s (take (input_arity s) g) ++ walked_rules T t (drop (input_arity s) g)
walked_rules T empty g = []
walked_rules T (alternation s t) g = []
walked_rules T (assert γ) g = []
walked_rules T (defined n) g = []

-- the numbers of the rules of a flat derivation's uses
unfoldable pub flat_rules : Table → List Entry → List ℕ
flat_rules T [] = []
flat_rules T (use_entry a γ ∷ es) = found_number (find_rule T a γ) ++ flat_rules T es
flat_rules T (open_entry γ ∷ es) = flat_rules T es

-- the rule with a number is used in a walk: it comes to an atomic of that rule's name on that rule's goal
abbrev pub UsedInWalk : Table → Term → (place : ℕ) → List Goal → (number : ℕ) → Type 0
UsedInWalk T s p g n = (a : RuleName) × (γ : Goal) × (h : List Goal) × (q : ℕ) × NumberedRule T n a γ h × Reaches (HasRule T) s p g (atomic a) q (γ ∷ [])

-- it is used in a flat derivation: there is a use of its name for its goal
abbrev pub UsedInEntries : Table → List Entry → (number : ℕ) → Type 0
UsedInEntries T es n = (a : RuleName) × (γ : Goal) × (h : List Goal) × NumberedRule T n a γ h × Memᴰ (use_entry a γ) es
