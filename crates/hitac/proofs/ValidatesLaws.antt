-- Laws of Fig. 2 alone, each by induction over its rules: another system or condition, and which terms and lists can stand in it.
-- Assumes nothing.
use Prim.Native.Nat.{◌≤◌}
use native.Mathlib.Omega.{arith}
use mathlib.Core.Path.{◌≡◌, refl}
use mathlib.Core.List.{List}
use lib.ListN.{length, length-append}
use Rattle.format.specs.declared.values.RuleName.{RuleName}
use Rattle.format.specs.declared.values.Goal.{Goal}
use Rattle.format.specs.Terms.{Term, Hiproof}
use Rattle.hitac.specs.Hiproofs.{input_arity}
use Rattle.hitac.specs.Validates.{System, AnyList, AtMost256, Validates, V-Atomic, V-Identity, V-Label, V-Sequence, V-Tensor, V-Empty}

-- A hiproof that validates in a system validates in any that has its rules.
pub map_system : {S R : System} {Fits : List Goal → Type 0} → ((a : RuleName) (γ : Goal) (h : List Goal) → S a γ h → R a γ h)
    → {s : Term} {g h : List Goal} → Validates S Fits s g h → Validates R Fits s g h
map_system f (V-Atomic {a = a} {γ = γ} {h = h} e) = V-Atomic (f a γ h e)
map_system f V-Identity = V-Identity
map_system f (V-Label v) = V-Label (map_system f v)
map_system f (V-Sequence v w) = V-Sequence (map_system f v) (map_system f w)
map_system f (V-Tensor v w l) = V-Tensor (map_system f v) (map_system f w) l
map_system f V-Empty = V-Empty

-- A weaker condition on the joined lists changes nothing.
pub map-fits : {S : System} {Fits More : List Goal → Type 0} → ((g : List Goal) → Fits g → More g)
    → {s : Term} {g h : List Goal} → Validates S Fits s g h → Validates S More s g h
map-fits f (V-Atomic e) = V-Atomic e
map-fits f V-Identity = V-Identity
map-fits f (V-Label v) = V-Label (map-fits f v)
map-fits f (V-Sequence v w) = V-Sequence (map-fits f v) (map-fits f w)
map-fits f (V-Tensor v w l) = V-Tensor (map-fits f v) (map-fits f w) (f _ l)
map-fits f V-Empty = V-Empty

-- What validates under the limit of 256 validates in the paper.
pub without_limit : {S : System} {s : Term} {g h : List Goal} → Validates S AtMost256 s g h → Validates S AnyList s g h
without_limit v = map-fits (λ g l. tt) v

-- What validates is a hiproof: a term of tags 16 to 21.
pub validates_hiproof : {S : System} {Fits : List Goal → Type 0} {s : Term} {g h : List Goal} → Validates S Fits s g h → Hiproof s
unfolding Hiproof
validates_hiproof (V-Atomic e) = tt
validates_hiproof V-Identity = tt
validates_hiproof (V-Label v) = validates_hiproof v
validates_hiproof (V-Sequence v w) = (validates_hiproof v, validates_hiproof w)
validates_hiproof (V-Tensor v w l) = (validates_hiproof v, validates_hiproof w)
validates_hiproof V-Empty = tt

-- "a hiproof has a unique arity, if it has any": the goals that it takes are as many as its input arity.
pub arity_of : {S : System} {Fits : List Goal → Type 0} {s : Term} {g h : List Goal} → Validates S Fits s g h → length g ≡ input_arity s
unfolding input_arity
arity_of (V-Atomic e) = refl
arity_of V-Identity = refl
arity_of (V-Label v) = refl
arity_of (V-Sequence v w) = arity_of v
arity_of (V-Tensor {g₁ = g₁} {g₂ = g₂} v w l) = omega (arith, length-append g₁ g₂, arity_of v, arity_of w)
arity_of V-Empty = refl

-- A list that a hiproof gives has at most 256 goals, if that holds of the rules' premises.
pub validates_length : {S : System} {s : Term} {g h : List Goal} → ((a : RuleName) (γ : Goal) (k : List Goal) → S a γ k → length k ≤ 256)
    → Validates S AtMost256 s g h → length h ≤ 256
validates_length short (V-Atomic e) = short _ _ _ e
validates_length short V-Identity = omega arith
validates_length short (V-Label v) = validates_length short v
validates_length short (V-Sequence v w) = validates_length short w
validates_length short (V-Tensor v w l) = omega arith
validates_length short V-Empty = omega arith
