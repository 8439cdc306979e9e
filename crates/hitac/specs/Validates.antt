-- The paper, Fig. 2: validation of hiproofs, and document 01's limit on joined lists.
use Rattle.std.specs.Prelude.{◌≤◌, List, [], ◌∷◌, ◌++◌, length}
use Rattle.format.specs.declared.values.RuleName.{RuleName}
use Rattle.format.specs.declared.values.Goal.{Goal}
use Rattle.format.specs.declared.values.Label.{Label}
use Rattle.format.specs.Terms.{Term, atomic, id, label, sequence, tensor, empty}

-- A derivation system: `S a γ g` says that the rule a takes the goal γ to the premises g.
abbrev pub System : Type 1
System = RuleName → Goal → List Goal → Type 0

-- A condition on the list that a tensor joins: none in the paper.
abbrev pub AnyList : List Goal → Type 0
AnyList g = Unit {0}

-- "A tensor whose joined list has more than 256 goals ends the walk with 22"
abbrev pub AtMost256 : List Goal → Type 0
AtMost256 g = length g ≤ 256

-- `Validates S Fits s g h`: the hiproof s takes the goals g to the goals h.
pub data Validates (S : System) (Fits : List Goal → Type 0) : Term → List Goal → List Goal → Type 0 where
  V-Atomic : {a : RuleName} {γ : Goal} {h : List Goal} → S a γ h → Validates S Fits (atomic a) (γ ∷ []) h
  V-Identity : {γ : Goal} → Validates S Fits id (γ ∷ []) (γ ∷ [])
  V-Label : {l : Label} {s : Term} {γ : Goal} {h : List Goal} → Validates S Fits s (γ ∷ []) h → Validates S Fits (label l s) (γ ∷ []) h
  V-Sequence : {s t : Term} {g h k : List Goal} → Validates S Fits s g h → Validates S Fits t h k → Validates S Fits (sequence s t) g k
  V-Tensor : {s t : Term} {g₁ g₂ h₁ h₂ : List Goal} → Validates S Fits s g₁ h₁ → Validates S Fits t g₂ h₂
      → Fits (h₁ ++ h₂) → Validates S Fits (tensor s t) (g₁ ++ g₂) (h₁ ++ h₂)
  V-Empty : Validates S Fits empty [] []
