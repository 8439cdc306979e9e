-- What the header of a term that stands in a file says of it.
-- Assumes nothing.
use mathlib.Core.Path.{◌≡◌}
use mathlib.Core.List.{List}
use Prim.Native.Nat.{ℕ, ◌+◌, ◌≤◌}
use native.Mathlib.Omega.{arith}
use lib.ListN.{length, get_or}
use Rattle.words.specs.Word.{word}
use Rattle.format.specs.Terms.{Term, atomic, id, label, sequence, tensor, empty, alternation, assert, defined, size}
use Rattle.format.specs.Standing.{Stands}

-- the tag of a term
unfoldable pub tag_of : Term → ℕ
tag_of (atomic a) = 16
tag_of id = 17
tag_of (label l t) = 18
tag_of (sequence a b) = 19
tag_of (tensor a b) = 20
tag_of empty = 21
tag_of (alternation a b) = 22
tag_of (assert g) = 23
tag_of (defined d) = 24

-- what every term's header says
pub record Known (s : List ℕ) (at : ℕ) (t : Term) : Type 0 where
  pub tag_is : get_or s at 0 ≡ tag_of t
  pub length_is : 3 + word s (at + 1) ≡ size t
  pub inside : at + size t ≤ length s
  pub three : 3 ≤ size t

module _ (s : List ℕ) (at : ℕ) where
  pub known : (t : Term) → Stands s at t → Known s at t
  unfolding Stands size tag_of
  known (atomic a) st = record { tag_is = st.0.tag_is; length_is = omega (arith, st.0); inside = omega (arith, st.0); three = omega arith }
  known id st = record { tag_is = st.tag_is; length_is = omega (arith, st); inside = omega (arith, st); three = omega arith }
  known (label l t) st = record { tag_is = st.0.tag_is; length_is = omega (arith, st.0); inside = omega (arith, st.0); three = omega arith }
  known (sequence a b) st = record { tag_is = st.0.tag_is; length_is = omega (arith, st.0); inside = omega (arith, st.0); three = omega arith }
  known (tensor a b) st = record { tag_is = st.0.tag_is; length_is = omega (arith, st.0); inside = omega (arith, st.0); three = omega arith }
  known empty st = record { tag_is = st.tag_is; length_is = omega (arith, st); inside = omega (arith, st); three = omega arith }
  known (alternation a b) st = record { tag_is = st.0.tag_is; length_is = omega (arith, st.0); inside = omega (arith, st.0); three = omega arith }
  known (assert g) st = record { tag_is = st.0.tag_is; length_is = omega (arith, st.0); inside = omega (arith, st.0); three = omega arith }
  known (defined d) st = record { tag_is = st.0.tag_is; length_is = omega (arith, st.0); inside = omega (arith, st.0); three = omega arith }
