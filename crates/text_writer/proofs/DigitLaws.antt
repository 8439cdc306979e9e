-- The digits of a value, as they are written: by their number, and from the last to the first.
-- Assumes nothing.
use mathlib.Core.Path.{◌≡◌, refl, sym, ap, ◌∙◌}
use mathlib.Core.List.{List, [], ◌∷◌, ◌++◌, append_assoc, append-nil}
use Prim.Native.Nat.{ℕ, zero, suc, ◌+◌, ◌≤◌, ◌<◌, ◌/◌, ◌%◌}
use native.Mathlib.Omega.{arith}
use lib.ListN.{length, set, length-append}
use lib.Seq.{sets}
use borrow.Author.Tests.{lt-ltb, le-ltb}
use Rattle.std.proofs.lemmas.List.{set_comm}
use Rattle.notation.specs.Written.{digits, decimal}
use Rattle.text_writer.specs.Spelling.{low_digits}

pub length-low_digits : (n v : ℕ) → length (low_digits n v) ≡ n
unfolding low_digits
length-low_digits zero v = refl
length-low_digits (suc n) v = omega (arith, length-append (low_digits n (v / 10)) ((48 + v % 10) ∷ []), length-low_digits n (v / 10))

-- one digit, and one more
last_digit : (m v : ℕ) → v < 10 → digits (suc m) v ≡ low_digits 1 v
unfolding digits low_digits
last_digit m v h = let e : v % 10 ≡ v = omega arith in rw (lt-ltb v 10 h, e)

more_digits : (m n v : ℕ) → 10 ≤ v → digits m (v / 10) ≡ low_digits n (v / 10) → digits (suc m) v ≡ low_digits (suc n) v
unfolding digits low_digits
more_digits m n v h e = rw (le-ltb v 10 h, e)

module _ (v : ℕ) where
  pub decimal_1 : v < 10 → decimal v ≡ low_digits 1 v
  unfolding decimal
  decimal_1 h = last_digit 4 v h

  pub decimal_2 : 10 ≤ v → v < 100 → decimal v ≡ low_digits 2 v
  unfolding decimal
  decimal_2 g h = more_digits 4 1 v g (last_digit 3 (v / 10) (omega arith))

  pub decimal_3 : 100 ≤ v → v < 1000 → decimal v ≡ low_digits 3 v
  unfolding decimal
  decimal_3 g h = more_digits 4 2 v (omega arith) (more_digits 3 1 (v / 10) (omega arith) (last_digit 2 (v / 10 / 10) (omega arith)))

  pub decimal_4 : 1000 ≤ v → v < 10000 → decimal v ≡ low_digits 4 v
  unfolding decimal
  decimal_4 g h = more_digits 4 3 v (omega arith) (more_digits 3 2 (v / 10) (omega arith) (more_digits 2 1 (v / 10 / 10) (omega arith) (last_digit 1 (v / 10 / 10 / 10) (omega arith))))

  pub decimal_5 : 10000 ≤ v → v < 65536 → decimal v ≡ low_digits 5 v
  unfolding decimal
  decimal_5 g h =
      more_digits 4 4 v (omega arith) (more_digits 3 3 (v / 10) (omega arith) (more_digits 2 2 (v / 10 / 10) (omega arith) (more_digits 1 1 (v / 10 / 10 / 10) (omega arith) (last_digit 0 (v / 10 / 10 / 10 / 10) (omega arith)))))

-- a byte stored in front of others
sets_before : (l w : List ℕ) (i j b : ℕ) → i < j → set (sets w j l) i b ≡ sets (set w i b) j l
sets_before [] w i j b h = refl
sets_before (a ∷ l) w i j b h = sets_before l (set w j a) i (suc j) b (omega arith) ∙ ap (λ (x : List ℕ). sets x (suc j) l) (set_comm w j i a b (λ z. omega (arith, h, z)))

-- of the digits of v that stand from a place on, the first i are still to be written; they are those of `rest`
pub record Left (v at i rest : ℕ) (w w' : List ℕ) : Type 0 where
  pub tail : List ℕ
  pub text : decimal v ≡ low_digits i rest ++ tail
  pub put : w' ≡ sets w (at + i) tail

pub none_put : (v n at : ℕ) (w : List ℕ) → decimal v ≡ low_digits n v → Left v at n v w w
none_put v n at w e = record { tail = []; text = e ∙ sym (append-nil (low_digits n v)); put = refl }

pub one_put : (v at i j rest : ℕ) (w w' : List ℕ) → i ≡ j + 1 → Left v at i rest w w' → Left v at j (rest / 10) w (set w' (at + j) (48 + rest % 10))
unfolding low_digits
one_put v at i j rest w w' h l =
    let d = 48 + rest % 10 in
    let e : i ≡ suc j = omega arith in
    let p : at + i ≡ suc (at + j) = omega arith in
    record {
      tail = d ∷ l.tail;
      text = l.text ∙ ap (λ (k : ℕ). low_digits k rest ++ l.tail) e ∙ append_assoc (low_digits j (rest / 10)) (d ∷ []) l.tail;
      put = ap (λ (x : List ℕ). set x (at + j) d) (l.put ∙ ap (λ (k : ℕ). sets w k l.tail) p) ∙ sets_before l.tail w (at + j) (suc (at + j)) d (omega arith);
    }

pub all_put : (v n at i rest : ℕ) (w w' : List ℕ) → decimal v ≡ low_digits n v → i ≤ 0 → Left v at i rest w w' → (n ≡ length (decimal v)) × (w' ≡ sets w at (decimal v))
unfolding low_digits
all_put v n at i rest w w' e h l =
    let z : i ≡ 0 = omega arith in
    let p : at + i ≡ at = omega arith in
    let text : decimal v ≡ l.tail = l.text ∙ ap (λ (k : ℕ). low_digits k rest ++ l.tail) z in
    (sym (ap length e ∙ length-low_digits n v), l.put ∙ ap (λ (k : ℕ). sets w k l.tail) p ∙ ap (sets w at) (sym text))
