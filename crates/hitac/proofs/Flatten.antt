-- THE FLATTENER'S MEANING (demand 3): what holds of the forest of every hiproof that the walk takes through. Each follows from the
-- law of its forest under Fig. 2. Assumes nothing.
use Prim.Native.Nat.{ℕ, ◌+◌}
use mathlib.Core.Path.{◌≡◌, ◌∙◌}
use mathlib.Core.List.{List, [], ◌++◌}
use Rattle.format.specs.declared.values.RuleName.{RuleName}
use Rattle.format.specs.declared.values.Goal.{Goal}
use Rattle.format.specs.Results.{gives}
use Rattle.format.specs.Terms.{Term}
use Rattle.tables.specs.Tables.{Table}
use Rattle.files.specs.Derivations.{Entry}
use Rattle.hitac.specs.Premises.{Finds}
use Rattle.hitac.specs.Hiproofs.{atomics, drop_labels}
use Rattle.hitac.specs.Walk.{walk}
use Rattle.hitac.specs.Forest.{entries, leaves, forest}
use Rattle.hitac.specs.FlatWalk.{flat_walk}
use Rattle.hitac.specs.FirstWrong.{entries_size}
use Rattle.hitac.specs.Counts.{uses, this_use, every_use, taken}
use Rattle.hitac.proofs.DroppedLabels.{unlabelled}
use Rattle.hitac.proofs.WalkValidates.{finds_agrees, validates→walk, walk→validates}
use Rattle.hitac.proofs.DerivesLaws.{derives_more, trees_derive}
use Rattle.hitac.proofs.FlatWalks.{derives→flat_walk, derives→gives}
use Rattle.hitac.proofs.ForestLaws.{Takes, forest_of, one_for_one, taken_all, unlabelled_forest}

module _ (T : Table) (s : Term) (p : ℕ) (g h : List Goal) (walked : walk T s p g ≡ gives h) where
  takes : Takes T s g h
  takes = walk→validates T (Finds T) (finds_agrees T) s p g walked

  -- with further goals pending and further entries
  pub forest-passed : (q : ℕ) (k : List Goal) (es : List Entry)
      → flat_walk T q (g ++ k) (entries (forest T s g) ++ es) ≡ flat_walk T (q + entries_size (entries (forest T s g))) k es
  forest-passed q k es = derives→flat_walk T (Finds T) (finds_agrees T) (derives_more (trees_derive (forest_of T takes).trees) k) q es

  -- the flat derivation is right
  pub forest-right : (q : ℕ) → flat_walk T q g (entries (forest T s g)) ≡ gives []
  forest-right q = derives→gives T (Finds T) (finds_agrees T) (trees_derive (forest_of T takes).trees) q

  -- its open leaves in order are the goals given
  pub forest-leaves : leaves (entries (forest T s g)) ≡ h
  forest-leaves = (forest_of T takes).given_leaves

  -- its uses are one for one the atomic fields in the walk: for every rule name and goal, and so in all
  pub forest-uses : (a : RuleName) (γ : Goal) → uses (this_use a γ) (entries (forest T s g)) ≡ taken (this_use a γ) T s g
  forest-uses a γ = one_for_one T (this_use a γ) takes

  pub forest_all_uses : uses every_use (entries (forest T s g)) ≡ atomics s
  forest_all_uses = one_for_one T every_use takes ∙ taken_all T takes

  -- dropping every label changes neither the goals given nor the forest
  pub unlabelled_walk : (q : ℕ) → walk T (drop_labels s) q g ≡ gives h
  unlabelled_walk q = validates→walk T (Finds T) (finds_agrees T) (unlabelled takes) q

  pub unlabelled_same : forest T (drop_labels s) g ≡ forest T s g
  unlabelled_same = unlabelled_forest T takes
