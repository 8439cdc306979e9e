-- Zeros: an or of bytes is 0 exactly if they all are; and all bytes of a list are zero if those of its blocks and of the rest are.
-- Assumes nothing.
use Prim.Native.Nat.{ℕ, zero, suc, ◌+◌, ◌*◌}
use mathlib.Core.Path.{◌≡◌, refl, sym, ap, ◌∙◌}
use mathlib.Core.Bool.{Bool, true, false, ◌&&◌}
use mathlib.Core.List.{List, [], ◌∷◌, ◌++◌}
use native.Mathlib.Omega.{arith}
use lib.Bits.{bit_or, or_add_and, and_le_l, and_le_r, or_zero_l}
use lib.Dec.{eqb}
use lib.ListN.{take, drop, take-append-drop}
use lib.Seq.{drop-drop}
use borrow.Author.Tests.{eq-eqb, ne_eqb, eqb-true, eqb-false}
use Rattle.std.specs.List.{fold, list_all}
use Rattle.std.specs.Simd.{first_chunks}
use Rattle.halting.specs.SavedBytes.{all_zero}

-- an or of nothing but zeros
or_none : (a b : ℕ) → bit_or a b ≡ 0 → a ≡ 0
or_none a b e = omega (arith, or_add_and a b, and_le_l a b, and_le_r a b, e)

or_none_r : (a b : ℕ) → bit_or a b ≡ 0 → b ≡ 0
or_none_r a b e = omega (arith, or_add_and a b, and_le_l a b, and_le_r a b, e)

and_true : (b : Bool) → b ≡ (b && true)
and_true true = refl
and_true false = refl

pub and_assoc : (a b c : Bool) → (a && b && c) ≡ (a && (b && c))
and_assoc true b c = refl
and_assoc false b c = refl

-- an or is 0 if both numbers are
or_zero : (d x : ℕ) → eqb (bit_or d x) 0 ≡ (eqb d 0 && eqb 0 x)
or_zero d x = go (eqb d 0) refl (eqb 0 x) refl
  where
    go : (a : Bool) → eqb d 0 ≡ a → (b : Bool) → eqb 0 x ≡ b → eqb (bit_or d x) 0 ≡ (a && b)
    go true e true f = eq-eqb (bit_or d x) 0 (ap (λ (k : ℕ). bit_or k x) (eqb-true d 0 e) ∙ or_zero_l x ∙ sym (eqb-true 0 x f))
    go true e false f = ne_eqb (bit_or d x) 0 (λ q. eqb-false 0 x f (sym (or_none_r d x q)))
    go false e b f = ne_eqb (bit_or d x) 0 (λ q. eqb-false d 0 e (or_none d x q))

or_all : (d : ℕ) (s : List ℕ) → eqb (fold bit_or d s) 0 ≡ (eqb d 0 && all_zero s)
unfolding all_zero
or_all d [] = and_true (eqb d 0)
or_all d (x ∷ s) = or_all (bit_or d x) s ∙ ap (λ (b : Bool). b && all_zero s) (or_zero d x) ∙ and_assoc (eqb d 0) (eqb 0 x) (all_zero s)

-- the or of all bytes says whether they are all zero
pub or_zeros : (s : List ℕ) (r : ℕ) → r ≡ fold bit_or 0 s → eqb r 0 ≡ all_zero s
or_zeros s r e = ap (λ (k : ℕ). eqb k 0) e ∙ or_all 0 s

zero_append : (a b : List ℕ) → all_zero (a ++ b) ≡ (all_zero a && all_zero b)
unfolding all_zero
zero_append [] b = refl
zero_append (x ∷ a) b = ap (λ (z : Bool). eqb 0 x && z) (zero_append a b) ∙ sym (and_assoc (eqb 0 x) (all_zero a) (all_zero b))

-- blocks of one size, and the rest behind them
blocks_and_rest : (n k : ℕ) (s : List ℕ) → (list_all all_zero (first_chunks n k s) && all_zero (drop (k * n) s)) ≡ all_zero s
blocks_and_rest n zero s = let z : 0 * n ≡ 0 = omega arith in ap (λ (j : ℕ). all_zero (drop j s)) z
blocks_and_rest n (suc k) s =
    let e : suc k * n ≡ n + k * n = omega arith in
    ap (λ (j : ℕ). (all_zero (take n s) && list_all all_zero (first_chunks n k (drop n s))) && all_zero (drop j s)) e
    ∙ and_assoc (all_zero (take n s)) (list_all all_zero (first_chunks n k (drop n s))) (all_zero (drop (n + k * n) s))
    ∙ ap (λ (x : List ℕ). all_zero (take n s) && (list_all all_zero (first_chunks n k (drop n s)) && all_zero x)) (sym (drop-drop (k * n) n s))
    ∙ ap (λ (b : Bool). all_zero (take n s) && b) (blocks_and_rest n k (drop n s))
    ∙ sym (zero_append (take n s) (drop n s))
    ∙ ap all_zero (take-append-drop n s)

module _ (n k : ℕ) (s : List ℕ) (r : Bool) (blocks : r ≡ list_all all_zero (first_chunks n k s)) where
  pub all_end : r ≡ true → (x : Bool) → x ≡ all_zero (drop (k * n) s) → x ≡ all_zero s
  all_end e x h = h ∙ ap (λ (b : Bool). b && all_zero (drop (k * n) s)) (sym e ∙ blocks) ∙ blocks_and_rest n k s

  pub none_end : r ≡ false → r ≡ all_zero s
  none_end e = e ∙ ap (λ (b : Bool). b && all_zero (drop (k * n) s)) (sym e ∙ blocks) ∙ blocks_and_rest n k s
