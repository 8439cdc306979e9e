-- What holds of each row of the table of tags, and of each number of an interval: tests that antt computes, row by row and number by number.
-- Assumes nothing.
use mathlib.Core.Path.{◌≡◌, refl, sym, ◌∙◌, subst, ap}
use mathlib.Core.Bool.{Bool, true, false, cond}
use mathlib.Core.List.{List, [], ◌∷◌}
use Prim.Native.Nat.{ℕ, zero, suc, ◌+◌, ◌-◌, ◌<◌, ◌≤◌}
use native.Mathlib.Omega.{arith}
use native.Mathlib.Nat.{add-zero, add-suc, suc-add}
use lib.Dec.{T, eqb, ltb, eqb→eq, ltb→lt}
use Rattle.std.specs.Prelude.{◌⊎◌, slice_index_or}
use Rattle.std.proofs.Common.{inl, inr}
use borrow.Author.Tests.{ne_eqb}
use Rattle.format.specs.Tags.{Row, row, no_kind, any_length, rows, find_row, row_of, most_of, inner_of}

abbrev pub both : Bool → Bool → Bool
both true b = b
both false b = false

pub both_left : (a b : Bool) → T (both a b) → T a
both_left true b t = tt
both_left false b t = t

pub both_right : (a b : Bool) → T (both a b) → T b
both_right true b t = t
both_right false b t = absurd t

-- the test passes at each row
abbrev pub every : (Row → Bool) → List Row → Bool
every f [] = true
every f (r ∷ rs) = both (f r) (every f rs)

-- the test passes at n numbers from i on
abbrev pub each : (ℕ → Bool) → (i n : ℕ) → Bool
each f i zero = true
each f i (suc n) = both (f i) (each f (suc i) n)

from : (f : ℕ → Bool) (n i : ℕ) → T (each f i n) → (k : ℕ) → k < n → T (f (i + k))
from f zero i p k h = absurd (omega arith)
from f (suc n) i p zero h = subst (λ (m : ℕ). T (f m)) (sym (add-zero i)) (both_left (f i) (each f (suc i) n) p)
from f (suc n) i p (suc k) h =
    subst (λ (m : ℕ). T (f m)) (suc-add i k ∙ sym (add-suc i k))
    (from f n (suc i) (both_right (f i) (each f (suc i) n) p) k (omega arith))

-- what the code computes is what the specification has, tested at the n numbers from i on
pub tested : (g h : ℕ → ℕ) (i n : ℕ) → T (each (λ k. eqb (g k) (h k)) i n) → (t : ℕ) → i ≤ t → t < i + n → g t ≡ h t
tested g h i n p t low high =
    let e : i + (t - i) ≡ t = omega arith in
    subst (λ (m : ℕ). g m ≡ h m) e (eqb→eq _ _ (from (λ k. eqb (g k) (h k)) n i p (t - i) (omega arith)))

none_among : (rs : List Row) (t : ℕ) → T (every (λ r. ltb r.tag 34) rs) → 34 ≤ t → find_row rs t ≡ row t no_kind 0 0 0
unfolding find_row
none_among [] t p h = refl
none_among (r ∷ rs) t p h =
    let q : r.tag < 34 = ltb→lt _ _ (both_left (ltb r.tag 34) (every (λ r. ltb r.tag 34) rs) p) in
    rw (ne_eqb t r.tag (λ e. omega arith)) (none_among rs t (both_right (ltb r.tag 34) (every (λ r. ltb r.tag 34) rs) p) h)

-- a number past the last tag is no tag
pub beyond : (t : ℕ) → 34 ≤ t → row_of t ≡ row t no_kind 0 0 0
unfolding row_of rows
beyond t h = none_among rows t tt h

-- A table of the code has the column's entries: at each number below 34, and at 0 what a number past the last tag has. It is looked into at the number itself, if it is below 34, and else at 0.
pub entry : {A : Type 0} (value : A → ℕ) (none : A) (table : List A) (column : ℕ → ℕ) → T (each (λ k. eqb (value (slice_index_or table k none)) (column k)) 0 34)
    → ((t : ℕ) → 34 ≤ t → value (slice_index_or table 0 none) ≡ column t) → (t n : ℕ) → ((n ≡ t) × (t < 34)) ⊎ ((n ≡ 0) × (34 ≤ t)) → value (slice_index_or table n none) ≡ column t
entry value none table column p past t n (inl b) = ap (λ (k : ℕ). value (slice_index_or table k none)) b.0 ∙ tested (λ k. value (slice_index_or table k none)) column 0 34 p t (omega arith) b.1
entry value none table column p past t n (inr b) = ap (λ (k : ℕ). value (slice_index_or table k none)) b.0 ∙ past t b.1

-- contents with inner terms may have any length
abbrev free : Row → Bool
free r = cond (eqb r.inner 0) true (eqb r.most any_length)

found_free : (rs : List Row) → T (every free rs) → (t : ℕ) → T (free (find_row rs t))
unfolding find_row
found_free [] p t = tt
found_free (r ∷ rs) p t = go (eqb t r.tag) (find_row rs t) (both_left (free r) (every free rs) p) (found_free rs (both_right (free r) (every free rs) p) t)
  where
    go : (b : Bool) (f : Row) → T (free r) → T (free f) → T (free (cond b r f))
    go true f here later = here
    go false f here later = later

pub any_length_lem : (t : ℕ) → (inner_of t ≡ 0 → ⊥) → most_of t ≡ any_length
unfolding inner_of most_of row_of rows
any_length_lem t n =
    let p : T (free (find_row rows t)) = found_free rows tt t in
    eqb→eq _ _ (subst (λ (b : Bool). T (cond b true (eqb (find_row rows t).most any_length))) (ne_eqb _ _ n) p)
