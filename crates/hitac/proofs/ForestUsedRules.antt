-- A proof's forest uses the rules of its walk (document 02, P6): by the one_for_one of its uses, for the test that picks a rule's number. Assumes nothing.
use Prim.Native.Nat.{ℕ, zero, suc, ◌+◌}
use native.Mathlib.Omega.{arith}
use mathlib.Core.Path.{◌≡◌, refl, sym, ap, ◌∙◌}
use mathlib.Core.Bool.{Bool, true, false, cond}
use mathlib.Core.List.{List, [], ◌∷◌, ◌++◌}
use lib.Dec.{ltb}
use lib.ListN.{take, drop}
use borrow.Author.Tests.{lt-ltb}
use Rattle.format.specs.declared.values.RuleName.{RuleName}
use Rattle.format.specs.declared.values.Goal.{Goal}
use Rattle.format.specs.Results.{gives}
use Rattle.format.specs.Terms.{Term, atomic, id, label, sequence, tensor, empty, alternation, assert, defined}
use Rattle.rule_set.specs.Different.{among, different}
use Rattle.rule_set.proofs.AmongLaws.{among_none, among-append}
use Rattle.rule_set.proofs.DifferentLaws.{different_same}
use Rattle.tables.specs.Tables.{Table}
use Rattle.tables.specs.Lookup.{find_rule}
use Rattle.files.specs.Derivations.{Entry, use_entry, open_entry}
use Rattle.hitac.specs.Hiproofs.{input_arity}
use Rattle.hitac.specs.Premises.{Finds}
use Rattle.hitac.specs.Walk.{walk}
use Rattle.hitac.specs.Forest.{entries, forest}
use Rattle.hitac.specs.Counts.{one_if, uses, takes_goal, taken}
use Rattle.hitac.specs.UsedRules.{found_number, looked_up, walked_rules, flat_rules}
use Rattle.hitac.proofs.WalkValidates.{finds_agrees, walk→validates}
use Rattle.hitac.proofs.ForestLaws.{one_for_one}
use Rattle.hitac.proofs.UsedRuleLaws.{between}

-- the test that picks the uses of the rule with a number
abbrev of_number : Table → (number : ℕ) → RuleName → Goal → Bool
of_number T n a γ = among n (found_number (find_rule T a γ))

-- counts that are not 0
one_counted : (b : Bool) → b ≡ ltb 0 (one_if b)
one_counted true = refl
one_counted false = refl

sum-counted : (j k : ℕ) → cond (ltb 0 j) true (ltb 0 k) ≡ ltb 0 (j + k)
sum-counted zero k = ap (ltb 0) (let e : k ≡ 0 + k = omega arith in e)
sum-counted (suc j) k = rw (lt-ltb 0 (suc j) (omega arith), lt-ltb 0 (suc j + k) (omega arith))

-- two lists joined, and the sum of their counts
joined-counted : (n : ℕ) (ms ns : List ℕ) (j k : ℕ) → among n ms ≡ ltb 0 j → among n ns ≡ ltb 0 k → among n (ms ++ ns) ≡ ltb 0 (j + k)
joined-counted n ms ns j k l r = among-append n ms ns ∙ rw (l, r) (sum-counted j k)

module _ (T : Table) (n : ℕ) where
  flat_counted : (es : List Entry) → among n (flat_rules T es) ≡ ltb 0 (uses (of_number T n) es)
  unfolding flat_rules
  flat_counted [] = among_none n
  flat_counted (use_entry a γ ∷ es) =
      joined-counted n (found_number (find_rule T a γ)) (flat_rules T es) (one_if (of_number T n a γ)) (uses (of_number T n) es) (one_counted (of_number T n a γ)) (flat_counted es)
  flat_counted (open_entry γ ∷ es) = flat_counted es

  goal-counted : (a : RuleName) (g : List Goal) → among n (looked_up T a g) ≡ ltb 0 (takes_goal (of_number T n a) g)
  unfolding looked_up
  goal-counted a [] = among_none n
  goal-counted a (γ ∷ []) = one_counted (of_number T n a γ)
  goal-counted a (γ ∷ δ ∷ g) = among_none n

  walk-counted : (s : Term) (g : List Goal) → among n (walked_rules T s g) ≡ ltb 0 (taken (of_number T n) T s g)
  unfolding walked_rules taken
  walk-counted (atomic a) g = goal-counted a g
  walk-counted id g = among_none n
  walk-counted (label l s) g = walk-counted s g
  walk-counted (sequence s t) g =
      let h = between T s g in
      joined-counted n (walked_rules T s g) (walked_rules T t h) (taken (of_number T n) T s g) (taken (of_number T n) T t h) (walk-counted s g) (walk-counted t h)
  walk-counted (tensor s t) g =
      let l = take (input_arity s) g in
      let r = drop (input_arity s) g in
      joined-counted n (walked_rules T s l) (walked_rules T t r) (taken (of_number T n) T s l) (taken (of_number T n) T t r) (walk-counted s l) (walk-counted t r)
  walk-counted empty g = among_none n
  walk-counted (alternation s t) g = among_none n
  walk-counted (assert γ) g = among_none n
  walk-counted (defined k) g = among_none n

-- THE SAME RULES: the forest of a hiproof that the walk takes through uses the rules of the walk, and so as many different ones.
module _ (T : Table) (s : Term) (p : ℕ) (g h : List Goal) (walked : walk T s p g ≡ gives h) where
  pub forest_rules : (n : ℕ) → among n (flat_rules T (entries (forest T s g))) ≡ among n (walked_rules T s g)
  forest_rules n =
      flat_counted T n (entries (forest T s g))
      ∙ ap (ltb 0) (one_for_one T (of_number T n) (walk→validates T (Finds T) (finds_agrees T) s p g walked))
      ∙ sym (walk-counted T n s g)

  pub forest-different : different (flat_rules T (entries (forest T s g))) ≡ different (walked_rules T s g)
  forest-different = different_same (flat_rules T (entries (forest T s g))) (walked_rules T s g) forest_rules
