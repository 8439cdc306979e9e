-- A row of nodes that was stored.
-- Assumes nothing.
use mathlib.Core.Path.{◌≡◌, refl, ap₂, ◌∙◌}
use mathlib.Core.List.{List, ◌∷◌}
use Prim.Native.Nat.{ℕ, zero, suc, ◌+◌, ◌*◌, ◌≤◌}
use native.Mathlib.Omega.{arith}
use lib.ListN.{length}
use Rattle.words.specs.Word.{word, put_word}
use Rattle.words.specs.Kept.{Kept}
use Rattle.words.proofs.WordLaws.{length-put_word, word_same}
use Rattle.words.proofs.KeptLaws.{kept_put, kept_same, kept_both, word_below}
use Rattle.format.specs.Goals.{goals_at}
use Rattle.hitac.proofs.Nodes.{range}
use Rattle.walks.specs.Values.{values_at}
use Rattle.nodes.specs.Space.{put_range}

pub length_range : (c : ℕ) (s : List ℕ) (at f : ℕ) → length (put_range s at f c) ≡ length s
unfolding put_range
length_range zero s at f = refl
length_range (suc c) s at f = length_range c (put_word s at f) (at + 2) (suc f) ∙ length-put_word s at f

pub kept_range : (c : ℕ) (s : List ℕ) (at f : ℕ) → Kept s (put_range s at f c) at (at + c * 2)
unfolding put_range
kept_range zero s at f = kept_same s at (at + zero * 2)
kept_range (suc c) s at f =
    kept_both s (put_word s at f) (put_range (put_word s at f) (at + 2) (suc f) c) at (at + 2) (at + 2) (at + 2 + c * 2) at (at + suc c * 2)
    (kept_put s at f at (at + 2) (omega arith) (omega arith)) (kept_range c (put_word s at f) (at + 2) (suc f)) (omega arith) (omega arith) (omega arith) (omega arith)

pub nodes_range : (c : ℕ) (s : List ℕ) (at f : ℕ) → at + c * 2 ≤ length s → values_at (put_range s at f c) at c ≡ range f c
unfolding put_range goals_at
nodes_range zero s at f h = refl
nodes_range (suc c) s at f h =
    let r = put_range (put_word s at f) (at + 2) (suc f) c in
    let first : word r at ≡ f = word_below (put_word s at f) r (at + 2) (at + 2 + c * 2) (kept_range c (put_word s at f) (at + 2) (suc f)) at (omega arith) ∙ word_same s at f (omega arith) in
    ap₂ (λ (n : ℕ) (l : List ℕ). n ∷ l) first (nodes_range c (put_word s at f) (at + 2) (suc f) (omega (arith, length-put_word s at f)))
