-- A term whose labels are dropped has none, is a hiproof if it was one, has the same atomics and no more fields or bytes, and validates as before.
-- By induction over the term, and over Fig. 2. Assumes nothing.
use Prim.Native.Nat.{◌≤◌}
use native.Mathlib.Omega.{arith}
use mathlib.Core.Path.{◌≡◌, refl}
use mathlib.Core.List.{List}
use Rattle.format.specs.declared.values.Goal.{Goal}
use Rattle.format.specs.Terms.{Term, atomic, id, label, sequence, tensor, empty, alternation, assert, defined, size, fields, Hiproof}
use Rattle.hitac.specs.Hiproofs.{atomics, drop_labels, Unlabelled}
use Rattle.hitac.specs.Validates.{System, Validates, V-Atomic, V-Identity, V-Label, V-Sequence, V-Tensor, V-Empty}

pub none_left : (s : Term) → Unlabelled (drop_labels s)
unfolding drop_labels Unlabelled
none_left (atomic a) = tt
none_left id = tt
none_left (label l s) = none_left s
none_left (sequence s t) = (none_left s, none_left t)
none_left (tensor s t) = (none_left s, none_left t)
none_left empty = tt
none_left (alternation s t) = (none_left s, none_left t)
none_left (assert γ) = tt
none_left (defined n) = tt

pub still_hiproof : (s : Term) → Hiproof s → Hiproof (drop_labels s)
unfolding drop_labels Hiproof
still_hiproof (atomic a) y = tt
still_hiproof id y = tt
still_hiproof (label l s) y = still_hiproof s y
still_hiproof (sequence s t) y = (still_hiproof s y.0, still_hiproof t y.1)
still_hiproof (tensor s t) y = (still_hiproof s y.0, still_hiproof t y.1)
still_hiproof empty y = tt
still_hiproof (alternation s t) y = absurd y
still_hiproof (assert γ) y = absurd y
still_hiproof (defined n) y = absurd y

pub record NoMore (s t : Term) : Type 0 where
  pub same_atomics : atomics s ≡ atomics t
  pub fewer_fields : fields s ≤ fields t
  pub fewer_bytes : size s ≤ size t

pub no_more : (s : Term) → NoMore (drop_labels s) s
unfolding drop_labels atomics fields size
no_more (atomic a) = record { same_atomics = refl; fewer_fields = omega arith; fewer_bytes = omega arith }
no_more id = record { same_atomics = refl; fewer_fields = omega arith; fewer_bytes = omega arith }
no_more (label l s) = let m = no_more s in record { same_atomics = m.same_atomics; fewer_fields = omega arith; fewer_bytes = omega arith }
no_more (sequence s t) =
    let m = no_more s in
    let n = no_more t in
    record { same_atomics = omega arith; fewer_fields = omega arith; fewer_bytes = omega arith }
no_more (tensor s t) =
    let m = no_more s in
    let n = no_more t in
    record { same_atomics = omega arith; fewer_fields = omega arith; fewer_bytes = omega arith }
no_more empty = record { same_atomics = refl; fewer_fields = omega arith; fewer_bytes = omega arith }
no_more (alternation s t) =
    let m = no_more s in
    let n = no_more t in
    record { same_atomics = omega arith; fewer_fields = omega arith; fewer_bytes = omega arith }
no_more (assert γ) = record { same_atomics = refl; fewer_fields = omega arith; fewer_bytes = omega arith }
no_more (defined n) = record { same_atomics = refl; fewer_fields = omega arith; fewer_bytes = omega arith }

-- Without its labels a hiproof validates as before.
pub unlabelled : {S : System} {Fits : List Goal → Type 0} {s : Term} {g h : List Goal} → Validates S Fits s g h → Validates S Fits (drop_labels s) g h
unfolding drop_labels
unlabelled (V-Atomic e) = V-Atomic e
unlabelled V-Identity = V-Identity
unlabelled (V-Label v) = unlabelled v
unlabelled (V-Sequence v w) = V-Sequence (unlabelled v) (unlabelled w)
unlabelled (V-Tensor v w l) = V-Tensor (unlabelled v) (unlabelled w) l
unlabelled V-Empty = V-Empty
