-- The comparison of two lists of bytes is equality, and a state is found to be the saved one exactly if it is. Assumes nothing.
use Prim.Native.Nat.{ℕ}
use mathlib.Core.Path.{◌≡◌, refl, subst, ap, ap₂}
use mathlib.Core.Bool.{Bool, true, false, ◌&&◌, false≢true}
use mathlib.Core.List.{List, [], ◌∷◌}
use mathlib.Core.Option.{Option, none, some, none-ne-some}
use lib.Dec.{eqb}
use borrow.Author.Tests.{eqb-true, eq-eqb}
use Rattle.entries.specs.Halting.{same_bytes, is_saved}

both_true : (b c : Bool) → (b && c) ≡ true → (b ≡ true) × (c ≡ true)
both_true true c e = (refl, e)
both_true false c e = absurd (false≢true e)

pub bytes_equal : (a b : List ℕ) → same_bytes a b ≡ true → a ≡ b
unfolding same_bytes
bytes_equal [] [] e = refl
bytes_equal [] (y ∷ b) e = absurd (false≢true e)
bytes_equal (x ∷ a) [] e = absurd (false≢true e)
bytes_equal (x ∷ a) (y ∷ b) e = let p = both_true (eqb x y) (same_bytes a b) e in ap₂ (λ (z : ℕ) (r : List ℕ). z ∷ r) (eqb-true x y p.0) (bytes_equal a b p.1)

pub equal_bytes : (a : List ℕ) → same_bytes a a ≡ true
unfolding same_bytes
equal_bytes [] = refl
equal_bytes (x ∷ a) = rw (eq-eqb x x refl, equal_bytes a)

pub saved_equal : (o : Option (List ℕ)) (s : List ℕ) → is_saved o s ≡ true → o ≡ some s
unfolding is_saved
saved_equal none s e = absurd (false≢true e)
saved_equal (some b) s e = ap some (bytes_equal b s e)

pub equal_saved : (o : Option (List ℕ)) (s : List ℕ) → o ≡ some s → is_saved o s ≡ true
unfolding is_saved
equal_saved none s q = absurd (none-ne-some s q)
equal_saved (some b) s q = let p : b ≡ s = cc in subst (λ (x : List ℕ). same_bytes b x ≡ true) p (equal_bytes b)
