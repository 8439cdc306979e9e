-- What the writing of fields leaves as it was: of the writes of a field's bytes and of a size, and of two such writes.
-- Assumes nothing.
use Prim.Native.Nat.{ℕ, ◌≤◌}
use mathlib.Core.Path.{refl, ◌∙◌}
use mathlib.Core.List.{List}
use native.Mathlib.Omega.{arith}
use Rattle.tactics.specs.Memory.{Only}
use Rattle.outline.specs.Layout.{outline_end, sizes_end}
use Rattle.outline.specs.Memory.{Around}

pub around_nothing : (w : List ℕ) (from to : ℕ) → Around from to w w
around_nothing w from to = record { same_length = refl; outline = λ i l r. refl; between = λ i l r. refl; behind = λ i l r. refl }

pub around_field : (w v : List ℕ) (from to : ℕ) → Only from to w v → sizes_end ≤ from → Around from to w v
around_field w v from to o h = record {
  same_length = o.same_length;
  outline = λ i l r. o.kept.below i (omega arith);
  between = λ i l r. o.kept.below i r;
  behind = λ i l r. o.kept.above i l;
}

pub around_size : (w v : List ℕ) (at next from to : ℕ) → Only at next w v → outline_end ≤ at → next ≤ sizes_end → sizes_end ≤ to → Around from to w v
around_size w v at next from to o h g e = record {
  same_length = o.same_length;
  outline = λ i l r. o.kept.below i (omega arith);
  between = λ i l r. o.kept.above i (omega arith);
  behind = λ i l r. o.kept.above i (omega arith);
}

pub around_then : (u v w : List ℕ) (f₁ t₁ f₂ t₂ from to : ℕ) → Around f₁ t₁ u v → Around f₂ t₂ v w → from ≤ f₁ → from ≤ f₂ → t₁ ≤ to → t₂ ≤ to → Around from to u w
around_then u v w f₁ t₁ f₂ t₂ from to p q a b c d = record {
  same_length = q.same_length ∙ p.same_length;
  outline = λ i l r. q.outline i l r ∙ p.outline i l r;
  between = λ i l r. q.between i l (omega arith) ∙ p.between i l (omega arith);
  behind = λ i l r. q.behind i (omega arith) (omega (arith, p.same_length)) ∙ p.behind i (omega arith) r;
}
