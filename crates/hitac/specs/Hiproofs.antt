-- Document 01, "Checking a hiproof" and "Flat derivations": what is said of a hiproof by itself.
-- Alternation, assert and defined tactics stand in no hiproof: their clauses are there to make each function total.
use Rattle.std.specs.Prelude.{ℕ, ◌+◌}
use Rattle.format.specs.Terms.{Term, atomic, id, label, sequence, tensor, empty, alternation, assert, defined}

-- "Input arity: atomic, id and label 1; empty 0; a sequence that of its left term; a tensor the sum."
unfoldable pub input_arity : Term → ℕ
input_arity (atomic a) = 1
input_arity id = 1
input_arity (label l s) = 1
input_arity (sequence s t) = input_arity s
input_arity (tensor s t) = input_arity s + input_arity t
input_arity empty = 0
input_arity (alternation s t) = 0
input_arity (assert γ) = 0
input_arity (defined n) = 0

-- "atomic fields": how many of a hiproof's fields are atomic
unfoldable pub atomics : Term → ℕ
atomics (atomic a) = 1
atomics id = 0
atomics (label l s) = atomics s
atomics (sequence s t) = atomics s + atomics t
atomics (tensor s t) = atomics s + atomics t
atomics empty = 0
atomics (alternation s t) = atomics s + atomics t
atomics (assert γ) = 0
atomics (defined n) = 0

-- "Dropping every label puts each label's inner term in the label's place"
unfoldable pub drop_labels : Term → Term
drop_labels (atomic a) = atomic a
drop_labels id = id
drop_labels (label l s) = drop_labels s
drop_labels (sequence s t) = sequence (drop_labels s) (drop_labels t)
drop_labels (tensor s t) = tensor (drop_labels s) (drop_labels t)
drop_labels empty = empty
drop_labels (alternation s t) = alternation (drop_labels s) (drop_labels t)
drop_labels (assert γ) = assert γ
drop_labels (defined n) = defined n

-- no label is left
unfoldable pub Unlabelled : Term → Type 0
Unlabelled (atomic a) = Unit {0}
Unlabelled id = Unit {0}
Unlabelled (label l s) = ⊥
Unlabelled (sequence s t) = Unlabelled s × Unlabelled t
Unlabelled (tensor s t) = Unlabelled s × Unlabelled t
Unlabelled empty = Unit {0}
Unlabelled (alternation s t) = Unlabelled s × Unlabelled t
Unlabelled (assert γ) = Unit {0}
Unlabelled (defined n) = Unit {0}
