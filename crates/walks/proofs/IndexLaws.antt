-- The rules stay indexed where a step leaves the index alone.
-- Assumes nothing.
use mathlib.Core.Path.{◌≡◌}
use mathlib.Core.List.{List}
use Prim.Native.Nat.{ℕ}
use native.Mathlib.Omega.{arith}
use lib.ListN.{length}
use Rattle.tables.specs.declared.repeats.Repeat.TheVariants as K
use Rattle.index.specs.Build.{RulesIndexed}
use Rattle.index.proofs.IndexKept.{tree_kept}
use Rattle.input_arities.specs.Layout.{arities_end}
use Rattle.walks.specs.SameIndex.{SameIndex}

pub indexed_still : (table : List ℕ) (first : ℕ) (w w' : List ℕ) → length w' ≡ length w → SameIndex w w' → RulesIndexed table first w arities_end → RulesIndexed table first w' arities_end
indexed_still table first w w' e k ix = (
  ix.0,
  ix.1,
  (ix.2.0, tree_kept K.Rule table ix.0 w w' arities_end ix.2.0 (omega arith) (λ i a b. k i a (omega (arith, ix.2.1.sound.few))) ix.2.1),
)
