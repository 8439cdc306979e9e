-- What the tag of a field says of the terms that begin with it.
-- Assumes nothing.
use Prim.Native.Nat.{ℕ, ◌+◌, ◌≤◌, ◌<◌}
use mathlib.Core.Path.{◌≡◌, refl, subst}
use mathlib.Core.List.{List, ◌∷◌}
use native.Mathlib.Omega.{arith}
use lib.ListN.{get_or}
use Rattle.words.specs.Word.{word}
use Rattle.format.specs.declared.values.RuleName.{RuleName}
use Rattle.format.specs.declared.values.Label.{Label}
use Rattle.format.specs.Terms.{Term, atomic, id, label, sequence, tensor, empty, size}
use Rattle.format.specs.Standing.{Head, Stands}
use Rattle.outline.specs.Built.{Built, B-End, B-Atomic, B-Identity, B-Label, B-Sequence, B-Tensor, B-Empty}

module _ (w : List ℕ) (count at : ℕ) where
  abbrev Inner : List Term → Type 0
  Inner ts = Built w count (at + 3) ts

  pub record IsAtomic (ts : List Term) : Type 0 where
    pub name : RuleName
    pub rest : List Term
    pub value_is : word w (at + 1) ≡ name.0
    pub inner : Inner rest
    pub all : ts ≡ atomic name ∷ rest

  pub record IsLabel (ts : List Term) : Type 0 where
    pub name : Label
    pub term : Term
    pub rest : List Term
    pub value_is : word w (at + 1) ≡ name.0
    pub inner : Inner (term ∷ rest)
    pub all : ts ≡ label name term ∷ rest

  -- a field without a value, with the tag, and either none or two inner terms
  pub record IsPlain (tag : ℕ) (ts : List Term) : Type 0 where
    pub term : Term
    pub rest : List Term
    pub inner : Inner rest
    pub all : ts ≡ term ∷ rest
    pub size_is : size term ≡ 3
    pub stand : (v : List ℕ) (i : ℕ) → Head v i tag 0 → Stands v i term

  pub record IsPair (tag : ℕ) (ts : List Term) : Type 0 where
    pub left : Term
    pub right : Term
    pub pair : Term
    pub rest : List Term
    pub inner : Inner (left ∷ right ∷ rest)
    pub all : ts ≡ pair ∷ rest
    pub size_is : size pair ≡ 3 + size left + size right
    pub stand : (v : List ℕ) (i : ℕ) → Head v i tag (size left + size right) → Stands v (i + 3) left → Stands v (i + 3 + size left) right → Stands v i pair

  module _ (more : at < count) where
    pub is_atomic : {ts : List Term} → Built w count at ts → get_or w at 0 ≡ 16 → IsAtomic ts
    is_atomic (B-End e) h = absurd (omega arith)
    is_atomic (B-Atomic {a = a} {ts = ts} t v i) h = record { name = a; rest = ts; value_is = v; inner = i; all = refl }
    is_atomic (B-Identity t i) h = absurd (omega arith)
    is_atomic (B-Label t v i) h = absurd (omega arith)
    is_atomic (B-Sequence t i) h = absurd (omega arith)
    is_atomic (B-Tensor t i) h = absurd (omega arith)
    is_atomic (B-Empty t i) h = absurd (omega arith)

    pub is_label : {ts : List Term} → Built w count at ts → get_or w at 0 ≡ 18 → IsLabel ts
    is_label (B-End e) h = absurd (omega arith)
    is_label (B-Atomic t v i) h = absurd (omega arith)
    is_label (B-Identity t i) h = absurd (omega arith)
    is_label (B-Label {l = l} {t = u} {ts = ts} t v i) h = record { name = l; term = u; rest = ts; value_is = v; inner = i; all = refl }
    is_label (B-Sequence t i) h = absurd (omega arith)
    is_label (B-Tensor t i) h = absurd (omega arith)
    is_label (B-Empty t i) h = absurd (omega arith)

    pub is_pair : {ts : List Term} → Built w count at ts → 19 ≤ get_or w at 0 → get_or w at 0 ≤ 20 → IsPair (get_or w at 0) ts
    unfolding Stands size
    is_pair (B-End e) a b = absurd (omega arith)
    is_pair (B-Atomic t v i) a b = absurd (omega arith)
    is_pair (B-Identity t i) a b = absurd (omega arith)
    is_pair (B-Label t v i) a b = absurd (omega arith)
    is_pair (B-Sequence {t = l} {u = r} {ts = ts} t i) a b =
        record { left = l; right = r; pair = sequence l r; rest = ts; inner = i; all = refl; size_is = refl; stand = λ v k h p q. (subst (λ (n : ℕ). Head v k n (size l + size r)) t h, p, q) }
    is_pair (B-Tensor {t = l} {u = r} {ts = ts} t i) a b =
        record { left = l; right = r; pair = tensor l r; rest = ts; inner = i; all = refl; size_is = refl; stand = λ v k h p q. (subst (λ (n : ℕ). Head v k n (size l + size r)) t h, p, q) }
    is_pair (B-Empty t i) a b = absurd (omega arith)

    pub is_plain : {ts : List Term} → Built w count at ts → (get_or w at 0 ≡ 16 → ⊥) → (get_or w at 0 ≡ 18 → ⊥) → (get_or w at 0 ≡ 19 → ⊥) → (get_or w at 0 ≡ 20 → ⊥) → IsPlain (get_or w at 0) ts
    unfolding Stands size
    is_plain (B-End e) a b c d = absurd (omega arith)
    is_plain (B-Atomic t v i) a b c d = absurd (a t)
    is_plain (B-Identity {ts = ts} t i) a b c d = record { term = id; rest = ts; inner = i; all = refl; size_is = refl; stand = λ v k h. subst (λ (n : ℕ). Head v k n 0) t h }
    is_plain (B-Label t v i) a b c d = absurd (b t)
    is_plain (B-Sequence t i) a b c d = absurd (c t)
    is_plain (B-Tensor t i) a b c d = absurd (d t)
    is_plain (B-Empty {ts = ts} t i) a b c d = record { term = empty; rest = ts; inner = i; all = refl; size_is = refl; stand = λ v k h. subst (λ (n : ℕ). Head v k n 0) t h }
