-- How many rules a walk and a flat derivation can use (document 02, P6), and how large their numbers are. By induction over the term and over the entries. Assumes nothing.
use Prim.Native.Nat.{ℕ, ◌≤◌, ◌<◌}
use native.Mathlib.Omega.{arith}
use mathlib.Core.Path.{◌≡◌}
use mathlib.Core.Bool.{true}
use mathlib.Core.Logic.{◌⊎◌, ⊎_elim}
use mathlib.Core.List.{List, [], ◌∷◌}
use lib.ListN.{length, take, drop, length-append}
use Rattle.format.specs.declared.values.RuleName.{RuleName}
use Rattle.format.specs.declared.values.Goal.{Goal}
use Rattle.format.specs.Terms.{Term, atomic, id, label, sequence, tensor, empty, alternation, assert, defined}
use Rattle.rule_set.specs.Different.{among}
use Rattle.tables.specs.Tables.{Table}
use Rattle.tables.specs.Lookup.{find_rule}
use Rattle.files.specs.Derivations.{Entry, use_entry, open_entry}
use Rattle.hitac.specs.Hiproofs.{input_arity, atomics}
use Rattle.hitac.specs.Walk.{walk}
use Rattle.hitac.specs.Counts.{uses, every_use}
use Rattle.hitac.specs.UsedRules.{found_number, looked_up, walked_rules, flat_rules}
use Rattle.hitac.proofs.UsedRuleLaws.{none_among, found_below, found_one, among_either, between}

module _ (T : Table) where
  below_looked_up : (n : ℕ) (a : RuleName) (g : List Goal) → among n (looked_up T a g) ≡ true → n < length T.rules
  unfolding looked_up
  below_looked_up n a [] m = none_among n m
  below_looked_up n a (γ ∷ []) m = found_below T n a γ m
  below_looked_up n a (γ ∷ δ ∷ g) m = none_among n m

  -- Every number is that of a rule of the table, also where the walk is refused.
  pub walked_below : (s : Term) (g : List Goal) (n : ℕ) → among n (walked_rules T s g) ≡ true → n < length T.rules
  unfolding walked_rules
  walked_below (atomic a) g n m = below_looked_up n a g m
  walked_below id g n m = none_among n m
  walked_below (label l s) g n m = walked_below s g n m
  walked_below (sequence s t) g n m =
      ⊎_elim (walked_below s g n) (walked_below t (between T s g) n) (among_either n (walked_rules T s g) (walked_rules T t (between T s g)) m)
  walked_below (tensor s t) g n m =
      ⊎_elim
      (walked_below s (take (input_arity s) g) n)
      (walked_below t (drop (input_arity s) g) n)
      (among_either n (walked_rules T s (take (input_arity s) g)) (walked_rules T t (drop (input_arity s) g)) m)
  walked_below empty g n m = none_among n m
  walked_below (alternation s t) g n m = none_among n m
  walked_below (assert γ) g n m = none_among n m
  walked_below (defined k) g n m = none_among n m

  pub flat_below : (es : List Entry) (n : ℕ) → among n (flat_rules T es) ≡ true → n < length T.rules
  unfolding flat_rules
  flat_below [] n m = none_among n m
  flat_below (use_entry a γ ∷ es) n m = ⊎_elim (found_below T n a γ) (flat_below es n) (among_either n (found_number (find_rule T a γ)) (flat_rules T es) m)
  flat_below (open_entry γ ∷ es) n m = flat_below es n m

  few_looked_up : (a : RuleName) (g : List Goal) → length (looked_up T a g) ≤ 1
  unfolding looked_up
  few_looked_up a [] = omega arith
  few_looked_up a (γ ∷ []) = found_one (find_rule T a γ)
  few_looked_up a (γ ∷ δ ∷ g) = omega arith

  -- At most one for each atomic, and one for each use.
  pub walked_few : (s : Term) (g : List Goal) → length (walked_rules T s g) ≤ atomics s
  unfolding walked_rules atomics
  walked_few (atomic a) g = few_looked_up a g
  walked_few id g = omega arith
  walked_few (label l s) g = walked_few s g
  walked_few (sequence s t) g =
      omega (arith, length-append (walked_rules T s g) (walked_rules T t (between T s g)), walked_few s g, walked_few t (between T s g))
  walked_few (tensor s t) g =
      let l = take (input_arity s) g in
      let r = drop (input_arity s) g in
      omega (arith, length-append (walked_rules T s l) (walked_rules T t r), walked_few s l, walked_few t r)
  walked_few empty g = omega arith
  walked_few (alternation s t) g = omega arith
  walked_few (assert γ) g = omega arith
  walked_few (defined n) g = omega arith

  pub flat_few : (es : List Entry) → length (flat_rules T es) ≤ uses every_use es
  unfolding flat_rules
  flat_few [] = omega arith
  flat_few (use_entry a γ ∷ es) =
      omega (arith, length-append (found_number (find_rule T a γ)) (flat_rules T es), found_one (find_rule T a γ), flat_few es)
  flat_few (open_entry γ ∷ es) = flat_few es
