-- Bounds on a term by its fields. By induction over the term. Assumes nothing.
use Prim.Native.Nat.{◌+◌, ◌*◌, ◌≤◌}
use native.Mathlib.Omega.{arith}
use Rattle.format.specs.Terms.{Term, atomic, id, label, sequence, tensor, empty, alternation, assert, defined, fields}
use Rattle.hitac.specs.Hiproofs.{input_arity, atomics}

-- Atomics make at most half of the fields, and one.
pub atomics-fields : (s : Term) → 2 * atomics s ≤ fields s + 1
unfolding atomics fields
atomics-fields (atomic a) = omega arith
atomics-fields id = omega arith
atomics-fields (label l s) = omega (arith, atomics-fields s)
atomics-fields (sequence s t) = omega (arith, atomics-fields s, atomics-fields t)
atomics-fields (tensor s t) = omega (arith, atomics-fields s, atomics-fields t)
atomics-fields empty = omega arith
atomics-fields (alternation s t) = omega (arith, atomics-fields s, atomics-fields t)
atomics-fields (assert γ) = omega arith
atomics-fields (defined n) = omega arith

pub arity_fields : (s : Term) → input_arity s ≤ fields s
unfolding input_arity fields
arity_fields (atomic a) = omega arith
arity_fields id = omega arith
arity_fields (label l s) = omega arith
arity_fields (sequence s t) = omega (arith, arity_fields s)
arity_fields (tensor s t) = omega (arith, arity_fields s, arity_fields t)
arity_fields empty = omega arith
arity_fields (alternation s t) = omega arith
arity_fields (assert γ) = omega arith
arity_fields (defined n) = omega arith
