-- The heads in front of the nodes: what is written is read back, and nothing else changes.
-- Assumes nothing.
use mathlib.Core.Path.{◌≡◌, ap, ap₂}
use mathlib.Core.Logic.{◌⊎◌, inl, inr, ◌≢◌}
use mathlib.Core.List.{List}
use Prim.Native.Nat.{ℕ, ◌+◌, ◌*◌, ◌%◌, ◌≤◌, ◌<◌}
use native.Mathlib.Omega.{arith}
use lib.ListN.{length, get_or}
use Rattle.words.specs.Word.{word}
use Rattle.words.specs.Kept.{Kept}
use Rattle.words.proofs.WordLaws.{length-put_word, word_same, word_other}
use Rattle.words.proofs.KeptLaws.{kept_put}
use Rattle.index.specs.Layout.{heads, heads_room}
use Rattle.words.specs.Blank.{Blank}
use Rattle.index.specs.Nodes.{head_of, put_head}
use Rattle.index.proofs.NodeLaws.{Same, split}

-- the digits behind the first ten do not matter
pub head_digits : (w : List ℕ) (base d e : ℕ) → d % heads ≡ e % heads → head_of w base d ≡ head_of w base e
unfolding head_of
head_digits w base d e q = ap (λ (x : ℕ). word w (base + x * 2)) q

-- heads are as they were where their bytes are
pub head_kept : (w w' : List ℕ) (base d : ℕ) → ((i : ℕ) → base ≤ i → i < base + heads_room → get_or w' i 0 ≡ get_or w i 0) → head_of w' base d ≡ head_of w base d
unfolding head_of word
head_kept w w' base d same = ap₂ (λ (x y : ℕ). x * 256 + y) (same (base + d % heads * 2) (omega arith) (omega arith)) (same (base + d % heads * 2 + 1) (omega arith) (omega arith))

module _ (w : List ℕ) (base d node : ℕ) where
  pub head_back : base + heads_room ≤ length w → head_of (put_head w base d node) base d ≡ node + 1
  unfolding head_of put_head
  head_back room = word_same w (base + d % heads * 2) (node + 1) (omega arith)

  pub head_other : (e : ℕ) → (d % heads ≡ e % heads → ⊥) → head_of (put_head w base d node) base e ≡ head_of w base e
  unfolding head_of put_head
  head_other e h = word_other w (base + d % heads * 2) (node + 1) (base + e % heads * 2) (go (d % heads) (e % heads) h)
    where
      go : (x y : ℕ) → (x ≡ y → ⊥) → (base + y * 2 + 1 < base + x * 2) ⊎ (base + x * 2 + 1 < base + y * 2)
      go x y h = which x y h (split y x)
        where
          which : (x y : ℕ) → (x ≡ y → ⊥) → (y < x) ⊎ (x ≤ y) → (base + y * 2 + 1 < base + x * 2) ⊎ (base + x * 2 + 1 < base + y * 2)
          which x y h (inl l) = inl (omega arith)
          which x y h (inr l) = inr (let n : x ≢ y = h in omega arith)

  pub length_head : length (put_head w base d node) ≡ length w
  unfolding put_head
  length_head = length-put_word w (base + d % heads * 2) (node + 1)

  pub kept_head : (high : ℕ) → base + heads_room ≤ high → Kept w (put_head w base d node) base high
  unfolding put_head
  kept_head high h = kept_put w (base + d % heads * 2) (node + 1) base high (omega arith) (omega arith)

  pub head_nodes : (at : ℕ) → base + heads_room ≤ at → Same w (put_head w base d node) at
  head_nodes at h = λ i a b. (kept_head (base + heads_room) (omega arith)).above i (omega arith)

-- heads that were cleared have no node
pub head_blank : (w w' : List ℕ) (base d : ℕ) → Blank w w' base heads_room → head_of w' base d ≡ 0
unfolding head_of word
head_blank w w' base d b = ap₂ (λ (x y : ℕ). x * 256 + y) (b.zeros (base + d % heads * 2) (omega arith) (omega arith)) (b.zeros (base + d % heads * 2 + 1) (omega arith) (omega arith))
