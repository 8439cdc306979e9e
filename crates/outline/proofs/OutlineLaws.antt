-- The length of an outline. By induction over the term.
-- Assumes nothing.
use Prim.Native.Nat.{◌*◌, ◌≤◌}
use mathlib.Core.Path.{◌≡◌, refl}
use native.Mathlib.Omega.{arith}
use lib.ListN.{length, length-append}
use Rattle.format.specs.Terms.{Term, atomic, id, label, sequence, tensor, empty, alternation, assert, defined, size, fields, Hiproof}
use Rattle.outline.specs.Outline.{outline_of}

-- three bytes for each field
pub outline_fields : (p : Term) → Hiproof p → length (outline_of p) ≡ 3 * fields p
unfolding outline_of Hiproof fields
outline_fields (atomic a) h = refl
outline_fields id h = refl
outline_fields (label l t) h = omega (arith, outline_fields t h)
outline_fields (sequence s r) h = omega (arith, length-append (outline_of s) (outline_of r), outline_fields s h.0, outline_fields r h.1)
outline_fields (tensor s r) h = omega (arith, length-append (outline_of s) (outline_of r), outline_fields s h.0, outline_fields r h.1)
outline_fields empty h = refl
outline_fields (alternation s r) h = absurd h
outline_fields (assert γ) h = absurd h
outline_fields (defined n) h = absurd h

-- a field has three bytes of its own, five with a value
field-size : (p : Term) → size p ≤ 5 * fields p
unfolding size fields
field-size (atomic a) = omega arith
field-size id = omega arith
field-size (label l t) = omega (arith, field-size t)
field-size (sequence s r) = omega (arith, field-size s, field-size r)
field-size (tensor s r) = omega (arith, field-size s, field-size r)
field-size empty = omega arith
field-size (alternation s r) = omega (arith, field-size s, field-size r)
field-size (assert γ) = omega arith
field-size (defined n) = omega arith

pub outline_size : (p : Term) → Hiproof p → size p * 3 ≤ 5 * length (outline_of p)
outline_size p h = omega (arith, outline_fields p h, field-size p)
