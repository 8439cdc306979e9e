-- The terms of the trees of a derivation: one for each pending goal, and those of two derivations in a row are those of each.
-- By induction over the derivation. Assumes nothing.
use Prim.Native.Nat.{suc, ◌≤◌}
use native.Mathlib.Omega.{arith}
use mathlib.Core.Path.{◌≡◌, refl, ap}
use mathlib.Core.List.{List, [], ◌∷◌, ◌++◌}
use lib.ListN.{length, length-append, length-drop}
use lib.Seq.{take-append-le, drop-append-le}
use Rattle.format.specs.declared.values.Goal.{Goal}
use Rattle.format.specs.Terms.{Term, id}
use Rattle.tables.specs.Tables.{Table}
use Rattle.files.specs.Derivations.{Entry}
use Rattle.hitac.specs.Premises.{Finds}
use Rattle.hitac.specs.Derives.{Derives, D-End, D-Open, D-Use}
use Rattle.hitac.specs.Write.{tree_terms}

pub tree_terms-length : (T : Table) {g : List Goal} {es : List Entry} → Derives (Finds T) g es [] → length (tree_terms T es) ≡ length g
unfolding tree_terms
tree_terms-length T D-End = refl
tree_terms-length T (D-Open d) = ap suc (tree_terms-length T d)
tree_terms-length T (D-Use {g = g} {h = h} {es = es} e d) =
    rw e.1 (omega (arith, tree_terms-length T d, length-append h g, length-drop (length h) (tree_terms T es)))

pub tree_terms-append : (T : Table) {g : List Goal} {es : List Entry} → Derives (Finds T) g es [] → (fs : List Entry)
    → tree_terms T (es ++ fs) ≡ tree_terms T es ++ tree_terms T fs
unfolding tree_terms
tree_terms-append T D-End fs = refl
tree_terms-append T (D-Open d) fs = ap {B = List Term} (λ ts. id ∷ ts) (tree_terms-append T d fs)
tree_terms-append T (D-Use {g = g} {h = h} {es = es} e d) fs =
    let n : length h ≤ length (tree_terms T es) = omega (arith, tree_terms-length T d, length-append h g) in
    rw (
      e.1,
      tree_terms-append T d fs,
      take-append-le (length h) (tree_terms T es) (tree_terms T fs) n,
      drop-append-le (length h) (tree_terms T es) (tree_terms T fs) n,
    )
