-- The input arity that is computed is the relation's, for every hiproof. By induction over the relation, and over the term. Assumes nothing.
use Prim.Native.Nat.{ℕ}
use native.Mathlib.Omega.{arith}
use mathlib.Core.Path.{◌≡◌, refl, subst}
use mathlib.Core.Logic.{◌↔◌}
use Rattle.format.specs.Terms.{Term, atomic, id, label, sequence, tensor, empty, alternation, assert, defined, Hiproof}
use Rattle.hitac.specs.Hiproofs.{input_arity}
use Rattle.hitac.specs.InputArity.{InputArity, I-Atomic, I-Identity, I-Label, I-Sequence, I-Tensor, I-Empty}

pub arity_computed : {s : Term} {n : ℕ} → InputArity s n → input_arity s ≡ n
unfolding input_arity
arity_computed I-Atomic = refl
arity_computed I-Identity = refl
arity_computed I-Label = refl
arity_computed (I-Sequence i) = arity_computed i
arity_computed (I-Tensor i j) = omega (arith, arity_computed i, arity_computed j)
arity_computed I-Empty = refl

pub arity_holds : (s : Term) → Hiproof s → InputArity s (input_arity s)
unfolding input_arity Hiproof
arity_holds (atomic a) y = I-Atomic
arity_holds id y = I-Identity
arity_holds (label l s) y = I-Label
arity_holds (sequence s t) y = I-Sequence (arity_holds s y.0)
arity_holds (tensor s t) y = I-Tensor (arity_holds s y.0) (arity_holds t y.1)
arity_holds empty y = I-Empty
arity_holds (alternation s t) y = absurd y
arity_holds (assert γ) y = absurd y
arity_holds (defined n) y = absurd y

pub arity↔relation : (s : Term) → Hiproof s → (n : ℕ) → (input_arity s ≡ n) ↔ InputArity s n
arity↔relation s y n = ((λ e. subst (InputArity s) e (arity_holds s y)), arity_computed)
