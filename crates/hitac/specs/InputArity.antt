-- Document 01, "Checking a hiproof", and the paper, section 2 (s : n): the input arity of a hiproof as a relation.
use Rattle.std.specs.Prelude.{ℕ, ◌+◌}
use Rattle.format.specs.declared.values.RuleName.{RuleName}
use Rattle.format.specs.declared.values.Label.{Label}
use Rattle.format.specs.Terms.{Term, atomic, id, label, sequence, tensor, empty}

-- "Input arity: atomic, id and label 1; empty 0; a sequence that of its left term; a tensor the sum."
pub data InputArity : Term → ℕ → Type 0 where
  I-Atomic : {a : RuleName} → InputArity (atomic a) 1
  I-Identity : InputArity id 1
  I-Label : {l : Label} {s : Term} → InputArity (label l s) 1
  I-Sequence : {s t : Term} {n : ℕ} → InputArity s n → InputArity (sequence s t) n
  I-Tensor : {s t : Term} {n m : ℕ} → InputArity s n → InputArity t m → InputArity (tensor s t) (n + m)
  I-Empty : InputArity empty 0
