-- Bytes outside the places of a copy or of a stored value are as they were; of two writes, those outside both.
-- Assumes nothing.
use mathlib.Core.Path.{◌≡◌, refl, ap₂, ◌∙◌}
use mathlib.Core.List.{List}
use mathlib.Core.Logic.{◌≢◌}
use Prim.Native.Nat.{ℕ, ◌+◌, ◌*◌, ◌/◌, ◌%◌, ◌≤◌}
use native.Mathlib.Omega.{arith}
use lib.ListN.{length, get_or, set, drop, length-drop}
use lib.Seq.{paste, get_or-set_other}
use Rattle.words.specs.Word.{word, put_word}
use Rattle.words.specs.Kept.{Kept}
use Rattle.words.proofs.Copy.{paste_below, paste_above}

pub kept_copy : (d s : List ℕ) (to from n low high : ℕ) → to + n ≤ length d → from + n ≤ length s → low ≤ to → to + n ≤ high → Kept d (paste d to (drop from s) n) low high
kept_copy d s to from n low high h g l u =
    let room : n ≤ length (drop from s) = simp length-drop (omega arith) in
    record {
      below = λ i b. paste_below d (drop from s) to n i (omega arith) (omega arith);
      above = λ i b. paste_above d (drop from s) to n h room i (omega arith);
    }

pub kept_put : (s : List ℕ) (at v low high : ℕ) → low ≤ at → at + 2 ≤ high → Kept s (put_word s at v) low high
unfolding put_word
kept_put s at v low high l u = record { below = λ i b. other i (omega arith) (omega arith); above = λ i b. other i (omega arith) (omega arith) }
  where
    other : (i : ℕ) → i ≢ at → i ≢ at + 1 → get_or (set (set s at (v / 256)) (at + 1) (v % 256)) i 0 ≡ get_or s i 0
    other i a b = get_or-set_other (set s at (v / 256)) (at + 1) i (v % 256) 0 b ∙ get_or-set_other s at i (v / 256) 0 a

pub kept_same : (w : List ℕ) (low high : ℕ) → Kept w w low high
kept_same w low high = record { below = λ i b. refl; above = λ i b. refl }

pub kept_both : (w₁ w₂ w₃ : List ℕ) (l₁ h₁ l₂ h₂ low high : ℕ) → Kept w₁ w₂ l₁ h₁ → Kept w₂ w₃ l₂ h₂ → low ≤ l₁ → low ≤ l₂ → h₁ ≤ high → h₂ ≤ high → Kept w₁ w₃ low high
kept_both w₁ w₂ w₃ l₁ h₁ l₂ h₂ low high k m a b c d = record {
  below = λ i l. m.below i (omega arith) ∙ k.below i (omega arith);
  above = λ i l. m.above i (omega arith) ∙ k.above i (omega arith);
}

-- a value outside the places of a write
module _ (w w' : List ℕ) (low high : ℕ) (k : Kept w w' low high) (at : ℕ) where
  pub word_below : at + 2 ≤ low → word w' at ≡ word w at
  unfolding word
  word_below h = ap₂ (λ (a b : ℕ). a * 256 + b) (k.below at (omega arith)) (k.below (at + 1) (omega arith))

  pub word_above : high ≤ at → word w' at ≡ word w at
  unfolding word
  word_above h = ap₂ (λ (a b : ℕ). a * 256 + b) (k.above at (omega arith)) (k.above (at + 1) (omega arith))
