-- Document 01, "20: .. place of the first term in the walk that cannot take its goals", and document 02, P5, which has a number for each reason: the terms that a walk comes to,
-- and those that cannot take the goals with which it comes. `Stops` says the same rule by rule, and 22 besides; but for 22 the two are proved equal.
use Rattle.std.specs.Prelude.{ℕ, ◌+◌, ◌<◌, ◌≡◌, List, [], ◌∷◌, ◌++◌, length}
use Rattle.format.specs.declared.values.RuleName.{RuleName}
use Rattle.format.specs.declared.values.Goal.{Goal}
use Rattle.format.specs.declared.values.Label.{Label}
use Rattle.format.specs.Terms.{Term, atomic, id, label, sequence, tensor, empty, size}
use Rattle.hitac.specs.Validates.{System, AtMost256, Validates}
use Rattle.hitac.specs.InputArity.{InputArity}

-- `Reaches S s p g u q k`: the walk of the hiproof s, whose field is at place p, on the goals g comes to the term u, whose field is at q, on the goals k.
-- "Left terms go first", so a right term is reached only where the left one validates.
pub data Reaches (S : System) : Term → (place : ℕ) → List Goal → Term → ℕ → List Goal → Type 0 where
  R-Here : {s : Term} {p : ℕ} {g : List Goal} → Reaches S s p g s p g
  R-Label : {l : Label} {s u : Term} {p q : ℕ} {γ : Goal} {k : List Goal} → Reaches S s (p + 5) (γ ∷ []) u q k → Reaches S (label l s) p (γ ∷ []) u q k
  R-Sequence-Left : {s t u : Term} {p q : ℕ} {g k : List Goal} → Reaches S s (p + 3) g u q k → Reaches S (sequence s t) p g u q k
  R-Sequence-Right : {s t u : Term} {p q : ℕ} {g h k : List Goal} → Validates S AtMost256 s g h → Reaches S t (p + 3 + size s) h u q k
      → Reaches S (sequence s t) p g u q k
  R-Tensor-Left : {s t u : Term} {p q : ℕ} {g₁ k : List Goal} (g₂ : List Goal) → InputArity s (length g₁) → Reaches S s (p + 3) g₁ u q k
      → Reaches S (tensor s t) p (g₁ ++ g₂) u q k
  R-Tensor-Right : {s t u : Term} {p q : ℕ} {g₁ g₂ h₁ k : List Goal} → Validates S AtMost256 s g₁ h₁ → Reaches S t (p + 3 + size s) g₂ u q k
      → Reaches S (tensor s t) p (g₁ ++ g₂) u q k

-- `CannotTake S n u k`: the term u cannot take the goals k, and n is the number of the reason.
pub data CannotTake (S : System) : (number : ℕ) → Term → List Goal → Type 0 where
  -- "20 stays for one goal without a rule of that name."
  C-Rule : {a : RuleName} {γ : Goal} → ((h : List Goal) → S a γ h → ⊥) → CannotTake S 20 (atomic a) (γ ∷ [])
  -- "34, an atomic, id or label without exactly one goal, or an empty with any"
  C-Atomic : {a : RuleName} {k : List Goal} → (length k ≡ 1 → ⊥) → CannotTake S 34 (atomic a) k
  C-Identity : {k : List Goal} → (length k ≡ 1 → ⊥) → CannotTake S 34 id k
  C-Label : {l : Label} {s : Term} {k : List Goal} → (length k ≡ 1 → ⊥) → CannotTake S 34 (label l s) k
  C-Empty : {k : List Goal} → 0 < length k → CannotTake S 34 empty k
  -- "35, a tensor with fewer goals than its left part's arity"
  C-Tensor : {s t : Term} {n : ℕ} {k : List Goal} → InputArity s n → length k < n → CannotTake S 35 (tensor s t) k

-- "the first term in the walk that cannot take its goals" is at q, and n is the number of the reason
abbrev pub FirstRefused : System → Term → (place : ℕ) → List Goal → (number stop : ℕ) → Type 0
FirstRefused S s p g n q = (u : Term) × (k : List Goal) × Reaches S s p g u q k × CannotTake S n u k
