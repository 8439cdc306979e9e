-- Bytes put behind bytes that were put are bytes put together, and a number is at most ten bytes.
-- Assumes nothing.
use Prim.Native.Nat.{ℕ, ◌+◌, ◌≤◌, ◌<◌}
use mathlib.Core.Path.{◌≡◌, refl, sym, ap, ap₂, subst, ◌∙◌}
use mathlib.Core.List.{List, ◌++◌, append_assoc}
use native.Mathlib.Omega.{arith}
use lib.ListN.{length, take, drop, length-append}
use lib.Seq.{paste, length-paste, length-take-le, take-length, take_at, drop-append-add, drop-drop}
use Rattle.io.specs.Digits.{IsDigitCount}
use Rattle.io.specs.Digits as io
use Rattle.entries.specs.PrintedLine.{decimal}
use Rattle.check_kit.specs.Line.{Puts}
use Rattle.check_kit.proofs.Decimal.{digits-length, same_decimal}

-- a whole text, copied
pub puts_text : {w s v : List ℕ} {at : ℕ} → at + length s ≤ length w → v ≡ paste w at s (length s) → Puts w at s v (at + length s)
puts_text {w} {s} {v} {at} h e =
    let kept : length v ≡ length w = ap length e ∙ length-paste w at s (length s) h (omega arith) in
    let inside : at + length s ≤ length v = omega arith in
    record {
      written = e ∙ ap (λ (l : List ℕ). take at w ++ l ++ drop (at + length s) w) (take-length s);
      behind = refl;
      inside = (inside, sym (length-take-le (at + length s) v inside));
    }

-- the front and the rest of a space in which bytes were put
module _ (w s v : List ℕ) (i j : ℕ) (h : i ≤ length w) (p : Puts w i s v j) where
  reached : length (take i w ++ s) ≡ j
  reached = omega (arith, length-append (take i w) s, length-take-le i w h, p.behind)

  front : take j v ≡ take i w ++ s
  front = ap (take j) p.written ∙ take_at (take i w ++ s) (drop j w) j reached

  rest : (n k : ℕ) → k ≡ j + n → drop k v ≡ drop k w
  rest n k e =
      let x : k ≡ length (take i w ++ s) + n = omega (arith, reached) in
      ap (drop k) p.written
      ∙ ap (λ (y : ℕ). drop y (take i w ++ s ++ drop j w)) x
      ∙ drop-append-add (take i w ++ s) (drop j w) n
      ∙ drop-drop n j w
      ∙ ap (λ (y : ℕ). drop y w) (sym e)

pub puts_then : {w s v t u : List ℕ} {i j k : ℕ} → i ≤ length w → Puts w i s v j → Puts v j t u k → Puts w i (s ++ t) u k
puts_then {w} {s} {v} {t} {u} {i} {j} {k} h p q = record {
  written = q.written ∙ ap₂ (λ (a b : List ℕ). a ++ t ++ b) (front w s v i j h p) (rest w s v i j h p (length t) k q.behind) ∙ ap (λ (l : List ℕ). l ++ drop k w) (append_assoc (take i w) s t);
  behind = omega (arith, length-append s t, p.behind, q.behind);
  inside = q.inside;
}

-- a text with its number, behind a line so far
pub puts_more : {w s v u : List ℕ} {i j k : ℕ} (t d : List ℕ) → i ≤ length w → Puts w i s v j → Puts v j (t ++ d) u k → Puts w i (s ++ t ++ d) u k
puts_more {w} {s} {v} {u} {i} {j} {k} t d h p q = rw (append_assoc s t d) (puts_then h p q)

-- a text that begins with io's digits of a number of 32 bits
module _ (n k : ℕ) (h : n < 4294967296) (f : IsDigitCount 10 1 n k) (text : List ℕ) (e : take k text ≡ io.last_digits 10 k n) where
  same : take k text ≡ decimal n
  same = e ∙ same_decimal n k h f

  pub decimal_puts : {w v : List ℕ} {i j : ℕ} → Puts w i (take k text) v j → Puts w i (decimal n) v j
  decimal_puts {w} {v} {i} {j} p = subst (λ (s : List ℕ). Puts w i s v j) same p

  pub decimal_short : length (take k text) ≤ 10
  decimal_short = rw same (digits-length 10 n)

pub number_ends : {w v : List ℕ} {i j : ℕ} (s : List ℕ) (n : ℕ) → Puts w i (s ++ decimal n) v j → j ≤ i + length s + 10
number_ends s n p = omega (arith, p.behind, length-append s (decimal n), digits-length 10 n)

-- where three numbers, each behind its text, end
pub numbers_end_lem : {w v : List ℕ} {i j : ℕ} (s : List ℕ) (a : ℕ) (t : List ℕ) (b : ℕ) (u : List ℕ) (c : ℕ) → Puts w i (s ++ decimal a ++ t ++ decimal b ++ u ++ decimal c) v j → j ≤ i + length s + length t + length u + 30
numbers_end_lem s a t b u c p =
    let one = s ++ decimal a in
    let two = one ++ t ++ decimal b in
    omega (
      arith,
      number_ends (two ++ u) c p,
      length-append two u,
      length-append (one ++ t) (decimal b),
      length-append one t,
      length-append s (decimal a),
      digits-length 10 a,
      digits-length 10 b,
    )
