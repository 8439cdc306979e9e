-- The comparison of two lists of goals is equality. By induction over both lists. Assumes nothing.
use mathlib.Core.Path.{◌≡◌, refl}
use mathlib.Core.Bool.{Bool, true, false, ◌&&◌, false≢true}
use mathlib.Core.List.{List, [], ◌∷◌}
use lib.Dec.{eqb}
use borrow.Author.Tests.{eqb-true, eq-eqb}
use Rattle.format.specs.declared.values.Goal.{Goal}
use Rattle.entries.specs.Check.{same_goals}

both_true : (b c : Bool) → (b && c) ≡ true → (b ≡ true) × (c ≡ true)
both_true true c e = (refl, e)
both_true false c e = absurd (false≢true e)

pub same_equal : (g h : List Goal) → same_goals g h ≡ true → g ≡ h
unfolding same_goals
same_equal [] [] e = refl
same_equal [] (δ ∷ h) e = absurd (false≢true e)
same_equal (γ ∷ g) [] e = absurd (false≢true e)
same_equal (γ ∷ g) (δ ∷ h) e =
    let b = both_true (eqb γ.0 δ.0) (same_goals g h) e in
    let n = eqb-true γ.0 δ.0 b.0 in
    let r = same_equal g h b.1 in
    λ i. record { 0 = n i } ∷ r i

pub equal_same : (g : List Goal) → same_goals g g ≡ true
unfolding same_goals
equal_same [] = refl
equal_same (γ ∷ g) = rw (eq-eqb γ.0 γ.0 refl, equal_same g)
