-- Document 01, "Checking a hiproof" and "What the state brings about", 20 and 22, and document 02, P5, 34 and 35: where and why a walk stops, as rules.
use Rattle.std.specs.Prelude.{ℕ, ◌+◌, ◌<◌, ◌≡◌, ◌⊎◌, List, [], ◌∷◌, ◌++◌, length}
use Rattle.format.specs.declared.values.RuleName.{RuleName}
use Rattle.format.specs.declared.values.Goal.{Goal}
use Rattle.format.specs.declared.values.Label.{Label}
use Rattle.format.specs.Terms.{Term, atomic, id, label, sequence, tensor, empty, size}
use Rattle.hitac.specs.Validates.{System, AtMost256, Validates}
use Rattle.hitac.specs.InputArity.{InputArity}

-- `Stops S s p g n q`: the walk of the hiproof s, whose field is at place p, on the goals g ends with the refusal n at the place q.
-- "20: .. place of the first term in the walk that cannot take its goals" and "22: joined list over 256; place of the tensor"; P5: 34 and 35 "both at 20's place in the walk".
-- "Left terms go first", so a right term stops the walk only where the left one validates.
pub data Stops (S : System) : Term → (place : ℕ) → List Goal → (number : ℕ) → (stop : ℕ) → Type 0 where
  -- "34, an atomic, id or label without exactly one goal, or an empty with any"; "20 stays for one goal without a rule of that name"
  S-Atomic-Goals : {a : RuleName} {p : ℕ} {g : List Goal} → (length g ≡ 1 → ⊥) → Stops S (atomic a) p g 34 p
  S-Atomic-Rule : {a : RuleName} {p : ℕ} {γ : Goal} → ((h : List Goal) → S a γ h → ⊥) → Stops S (atomic a) p (γ ∷ []) 20 p
  S-Identity-Goals : {p : ℕ} {g : List Goal} → (length g ≡ 1 → ⊥) → Stops S id p g 34 p
  S-Empty-Goals : {p : ℕ} {g : List Goal} → 0 < length g → Stops S empty p g 34 p
  S-Label-Goals : {l : Label} {s : Term} {p : ℕ} {g : List Goal} → (length g ≡ 1 → ⊥) → Stops S (label l s) p g 34 p
  -- "label: one goal, given to the inner term"
  S-Label-Inner : {l : Label} {s : Term} {p n q : ℕ} {γ : Goal} → Stops S s (p + 5) (γ ∷ []) n q → Stops S (label l s) p (γ ∷ []) n q
  -- "sequence: left, then right on what left gave"
  S-Sequence-Left : {s t : Term} {p n q : ℕ} {g : List Goal} → Stops S s (p + 3) g n q → Stops S (sequence s t) p g n q
  S-Sequence-Right : {s t : Term} {p n q : ℕ} {g h : List Goal} → Validates S AtMost256 s g h → Stops S t (p + 3 + size s) h n q
      → Stops S (sequence s t) p g n q
  -- "35, a tensor with fewer goals than its left part's arity": before its left part is walked
  S-Tensor-Goals : {s t : Term} {p n : ℕ} {g : List Goal} → InputArity s n → length g < n → Stops S (tensor s t) p g 35 p
  -- "tensor: the first n goals (n is the left's arity) to the left, the others to the right; the two lists joined"
  S-Tensor-Left : {s t : Term} {p n q : ℕ} {g₁ : List Goal} (g₂ : List Goal) → InputArity s (length g₁) → Stops S s (p + 3) g₁ n q
      → Stops S (tensor s t) p (g₁ ++ g₂) n q
  S-Tensor-Right : {s t : Term} {p n q : ℕ} {g₁ g₂ h₁ : List Goal} → Validates S AtMost256 s g₁ h₁ → Stops S t (p + 3 + size s) g₂ n q
      → Stops S (tensor s t) p (g₁ ++ g₂) n q
  S-Tensor-Joined : {s t : Term} {p : ℕ} {g₁ g₂ h₁ h₂ : List Goal} → Validates S AtMost256 s g₁ h₁ → Validates S AtMost256 t g₂ h₂
      → 256 < length (h₁ ++ h₂) → Stops S (tensor s t) p (g₁ ++ g₂) 22 p

-- the numbers with which a walk stops
abbrev pub StopNumber : ℕ → Type 0
StopNumber n = (n ≡ 20) ⊎ ((n ≡ 22) ⊎ ((n ≡ 34) ⊎ (n ≡ 35)))
