-- What io's `decimal` makes of a number of at most ten digits is the number as the printed line has it: both definitions split off the last digit, and the fewest digits end where the number is below ten.
-- Assumes nothing.
use Prim.Native.Nat.{ℕ, zero, suc, ◌+◌, ◌/◌, ◌%◌, ◌^◌, ◌≤◌, ◌<◌}
use mathlib.Core.Path.{◌≡◌}
use mathlib.Core.Bool.{Bool, true, false, cond}
use mathlib.Core.List.{List, [], ◌∷◌, ◌++◌}
use native.Mathlib.Nat.{mod-eq_of_lt, one-le-pow, pow-suc}
use native.Mathlib.Numerals.{unary_clauses}
use native.Mathlib.Omega.{arith}
use lib.Dec.{ltb}
use lib.ListN.{length, length-append}
use borrow.Author.Tests.{lt-ltb, le-ltb}
use Rattle.io.specs.Digits.{IsDigitCount}
use Rattle.io.specs.Digits as io
use Rattle.notation.specs.Written.{digits}
use Rattle.entries.specs.PrintedLine.{decimal}

pub digits-length : (most n : ℕ) → length (digits most n) ≤ most
unfolding digits
digits-length zero n = omega arith
digits-length (suc m) n = either (ltb n 10) (digits m (n / 10)) (digits-length m (n / 10))
  where
    either : (b : Bool) (front : List ℕ) → length front ≤ m → length (cond b ((48 + n) ∷ []) (front ++ ((48 + n % 10) ∷ []))) ≤ suc m
    either true front h = omega arith
    either false front h = omega (arith, length-append front ((48 + n % 10) ∷ []))

-- the definitions at one digit, and at one digit more
one_digit : (m n : ℕ) → n < 10 → io.last_digits 10 1 n ≡ digits (suc m) n
unfolding digits
one_digit m n h = rw (mod-eq_of_lt h, lt-ltb n 10 h)

digit_more_lem : (m k n : ℕ) → 10 ≤ n → io.last_digits 10 k (n / 10) ≡ digits m (n / 10) → io.last_digits 10 (suc k) n ≡ digits (suc m) n
unfolding digits
digit_more_lem m k n h e =
    let low : n % 10 < 10 = omega arith in
    rw (le-ltb n 10 h, lt-ltb (n % 10) 10 low, e)

same_digits : (m k n : ℕ) → n < 10 ^ suc m → n < 10 ^ suc k → (0 < k → 10 ^ k ≤ n) → io.last_digits 10 (suc k) n ≡ digits (suc m) n
same_digits m zero n a b c = one_digit m n b
same_digits zero (suc k) n a b c = absurd (omega (arith, c (omega arith), pow-suc 10 k, one-le-pow k 10 (omega arith)))
same_digits (suc m) (suc k) n a b c =
    let more : 10 ≤ n = omega (arith, c (omega arith), pow-suc 10 k, one-le-pow k 10 (omega arith)) in
    let below : n / 10 < 10 ^ suc m = omega (arith, pow-suc 10 (suc m)) in
    let enough : n / 10 < 10 ^ suc k = omega (arith, pow-suc 10 (suc k)) in
    let least : 10 ^ k ≤ n / 10 = omega (arith, c (omega arith), pow-suc 10 k) in
    digit_more_lem (suc m) (suc k) n more (same_digits m k (n / 10) below enough (λ _. least))

pub same_decimal : (n k : ℕ) → n < 4294967296 → IsDigitCount 10 1 n k → io.last_digits 10 k n ≡ decimal n
same_decimal n zero h f = absurd (omega (arith, f.0))
same_decimal n (suc k) h f = same_digits 9 k n (omega arith) f.1 (λ p. simp unary_clauses at (f.2 (omega arith)))
