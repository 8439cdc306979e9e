-- The encodings of values of 16 bits are lists of bytes: by induction over what is encoded.
-- Assumes nothing.
use mathlib.Core.List.{List, [], ◌∷◌, ◌++◌}
use Prim.Native.Nat.{ℕ, zero, suc, ◌+◌, ◌/◌, ◌%◌, ◌<◌}
use native.Mathlib.Omega.{arith}
use lib.ListN.{length, length-append}
use Rattle.format.specs.declared.values.Goal.{Goal}
use Rattle.format.specs.Terms.{Term, atomic, id, label, sequence, tensor, empty, alternation, assert, defined, size}
use Rattle.format.specs.Encoding.{Bytes, word_bytes, field_bytes, term_bytes, goal_bytes, goal_list_bytes, GoalValues, TermValues}
use Rattle.format.proofs.GoalBytes.{length-goal_bytes}
use Rattle.format.proofs.Encoded.{length-term_bytes}

pub nil_bytes : Bytes []
nil_bytes i = omega arith

pub cons_bytes : (x : ℕ) (l : List ℕ) → x < 256 → Bytes l → Bytes (x ∷ l)
cons_bytes x l h b zero = h
cons_bytes x l h b (suc i) = b i

pub append_bytes : (a b : List ℕ) → Bytes a → Bytes b → Bytes (a ++ b)
append_bytes [] b h k = k
append_bytes (x ∷ a) b h k = cons_bytes x (a ++ b) (h 0) (append_bytes a b (λ i. h (suc i)) k)

pub word_bytes_lem : (v : ℕ) → v < 65536 → Bytes (word_bytes v)
word_bytes_lem v h = cons_bytes (v / 256) (v % 256 ∷ []) (omega arith) (cons_bytes (v % 256) [] (omega arith) nil_bytes)

pub field_is_bytes : (tag : ℕ) (l : List ℕ) → tag < 256 → length l < 65536 → Bytes l → Bytes (field_bytes tag l)
field_is_bytes tag l t h b = cons_bytes tag (word_bytes (length l) ++ l) t (append_bytes (word_bytes (length l)) l (word_bytes_lem (length l) h) b)

pub goals_are_bytes : (g : List Goal) → GoalValues g → Bytes (goal_bytes g)
unfolding GoalValues goal_bytes
goals_are_bytes [] v = nil_bytes
goals_are_bytes (γ ∷ g) v = append_bytes (word_bytes γ.0) (goal_bytes g) (word_bytes_lem γ.0 v.0) (goals_are_bytes g v.1)

pub list_is_bytes : (g : List Goal) → GoalValues g → length g < 32768 → Bytes (goal_list_bytes g)
list_is_bytes g v h = field_is_bytes 3 (goal_bytes g) (omega arith) (omega (arith, length-goal_bytes g)) (goals_are_bytes g v)

two : (tag : ℕ) (t u : Term) → tag < 256 → size t + size u < 65536 → Bytes (term_bytes t) → Bytes (term_bytes u) → Bytes (field_bytes tag (term_bytes t ++ term_bytes u))
two tag t u l h a b = field_is_bytes tag (term_bytes t ++ term_bytes u) l (omega (arith, length-append (term_bytes t) (term_bytes u), length-term_bytes t, length-term_bytes u)) (append_bytes (term_bytes t) (term_bytes u) a b)

pub term_is_bytes : (t : Term) → TermValues t → size t < 65536 → Bytes (term_bytes t)
unfolding TermValues term_bytes size
term_is_bytes (atomic a) v h = field_is_bytes 16 (word_bytes a.0) (omega arith) (omega arith) (word_bytes_lem a.0 v)
term_is_bytes id v h = field_is_bytes 17 [] (omega arith) (omega arith) nil_bytes
term_is_bytes (label l t) v h =
    field_is_bytes 18 (word_bytes l.0 ++ term_bytes t) (omega arith) (omega (arith, length-term_bytes t)) (append_bytes (word_bytes l.0) (term_bytes t) (word_bytes_lem l.0 v.0) (term_is_bytes t v.1 (omega arith)))
term_is_bytes (sequence t u) v h = two 19 t u (omega arith) (omega arith) (term_is_bytes t v.0 (omega arith)) (term_is_bytes u v.1 (omega arith))
term_is_bytes (tensor t u) v h = two 20 t u (omega arith) (omega arith) (term_is_bytes t v.0 (omega arith)) (term_is_bytes u v.1 (omega arith))
term_is_bytes empty v h = field_is_bytes 21 [] (omega arith) (omega arith) nil_bytes
term_is_bytes (alternation t u) v h = two 22 t u (omega arith) (omega arith) (term_is_bytes t v.0 (omega arith)) (term_is_bytes u v.1 (omega arith))
term_is_bytes (assert γ) v h = field_is_bytes 23 (word_bytes γ.0) (omega arith) (omega arith) (word_bytes_lem γ.0 v)
term_is_bytes (defined n) v h = field_is_bytes 24 (word_bytes n.0) (omega arith) (omega arith) (word_bytes_lem n.0 v)
