-- The walk resumed: a refusal passes every term that waits, and there are at most half as many of these as fields that they account for.
-- Assumes nothing.
use mathlib.Core.Path.{◌≡◌, refl}
use mathlib.Core.List.{List, [], ◌∷◌}
use Prim.Native.Nat.{ℕ, ◌*◌, ◌≤◌}
use native.Mathlib.Omega.{arith}
use lib.ListN.{length}
use Rattle.format.specs.declared.refusals.Cause.{Cause}
use Rattle.format.specs.Results.{refused, and_then}
use Rattle.format.specs.Terms.{Term, atomic, id, label, sequence, tensor, empty, alternation, assert, defined, fields}
use Rattle.walks.specs.Walks.{Act}
use Rattle.walks.specs.Waiting.{Waiting, sequence_left, tensor_left, tensor_right, resumed, weight}

pub resumed_refused : {C : Type 0} (act : Act C) (f : List Waiting) (c : Cause) (p : ℕ) → resumed act f (refused c p) ≡ refused c p
unfolding resumed and_then
resumed_refused act [] c p = refl
resumed_refused act (sequence_left u r ∷ f) c p = resumed_refused act f c p
resumed_refused act (tensor_left q u r g ∷ f) c p = resumed_refused act f c p
resumed_refused act (tensor_right q h ∷ f) c p = resumed_refused act f c p

pub one_field : (t : Term) → 1 ≤ fields t
unfolding fields
one_field (atomic a) = omega arith
one_field id = omega arith
one_field (label l t) = omega arith
one_field (sequence t u) = omega arith
one_field (tensor t u) = omega arith
one_field empty = omega arith
one_field (alternation t u) = omega arith
one_field (assert γ) = omega arith
one_field (defined n) = omega arith

-- at most 2,047 terms wait where they and the current term account for at most 4,096 fields
pub weight-length : (f : List Waiting) → 2 * length f ≤ weight f
unfolding weight
weight-length [] = omega arith
weight-length (sequence_left u r ∷ f) = omega (arith, weight-length f, one_field u)
weight-length (tensor_left q u r g ∷ f) = omega (arith, weight-length f, one_field u)
weight-length (tensor_right q h ∷ f) = omega (arith, weight-length f)
