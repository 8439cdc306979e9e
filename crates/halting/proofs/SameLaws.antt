-- The comparison of bytes: of lists of different lengths, and as slices are compared.
-- Assumes nothing.
use Prim.Native.Nat.{ℕ}
use mathlib.Core.Path.{◌≡◌, refl, sym, ap}
use mathlib.Core.Bool.{Bool, true, false, ◌&&◌}
use mathlib.Core.List.{List, [], ◌∷◌}
use lib.Dec.{eqb}
use lib.ListN.{length}
use Rattle.std.specs.Cmp.Lexicographic.{pointwise}
use Rattle.entries.specs.Halting.{same_bytes}
use Rattle.entries.proofs.SameBytes.{bytes_equal}

-- lists of different lengths
pub other_size : (a b : List ℕ) → (length b ≡ length a → ⊥) → same_bytes a b ≡ false
other_size a b h = go (same_bytes a b) refl
  where
    go : (x : Bool) → same_bytes a b ≡ x → x ≡ false
    go true e = absurd (h (ap length (sym (bytes_equal a b e))))
    go false e = refl

pub pointwise_same : (a b : List ℕ) → pointwise eqb a b ≡ same_bytes a b
unfolding same_bytes
pointwise_same [] [] = refl
pointwise_same [] (y ∷ b) = refl
pointwise_same (x ∷ a) [] = refl
pointwise_same (x ∷ a) (y ∷ b) = ap (λ (z : Bool). eqb x y && z) (pointwise_same a b)
