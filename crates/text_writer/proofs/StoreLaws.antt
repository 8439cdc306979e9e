-- Bytes stored one behind the other: what stands before them, at their place and behind them.
-- Assumes nothing.
use mathlib.Core.Path.{◌≡◌, refl, ap, ◌∙◌}
use mathlib.Core.List.{List, [], ◌∷◌, ◌++◌}
use Prim.Native.Nat.{ℕ, suc, ◌+◌, ◌≤◌}
use native.Mathlib.Omega.{arith}
use lib.ListN.{length, get_or, set, take, drop, length-append}
use lib.Seq.{sets, sets-eq, take_at, length-take-le, get_or-set_other}

-- the text up to their end
pub sets_front : (x w : List ℕ) (at : ℕ) → at + length x ≤ length w → take (at + length x) (sets w at x) ≡ take at w ++ x
sets_front x w at h =
    ap (take (at + length x)) (sets-eq x w at h)
    ∙ take_at (take at w ++ x) (drop (at + length x) w) (at + length x) (length-append (take at w) x ∙ ap (λ (n : ℕ). n + length x) (length-take-le at w (omega arith)))

-- the bytes behind them are as they were
pub sets_behind : (x w : List ℕ) (at i : ℕ) → at + length x ≤ i → get_or (sets w at x) i 0 ≡ get_or w i 0
sets_behind [] w at i h = refl
sets_behind (a ∷ x) w at i h = sets_behind x (set w at a) (suc at) i (omega arith) ∙ get_or-set_other w at i a 0 (omega arith)

-- bytes stored behind others
pub sets_more : (x y w : List ℕ) (at : ℕ) → sets (sets w at x) (at + length x) y ≡ sets w at (x ++ y)
sets_more [] y w at = let e : at + 0 ≡ at = omega arith in ap (λ (i : ℕ). sets w i y) e
sets_more (a ∷ x) y w at = let e : at + suc (length x) ≡ suc at + length x = omega arith in ap (λ (i : ℕ). sets (sets (set w at a) (suc at) x) i y) e ∙ sets_more x y (set w at a) (suc at)
