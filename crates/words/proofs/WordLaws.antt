-- A value is read back where it was stored, and no other place changes.
-- Assumes nothing.
use mathlib.Core.Path.{◌≡◌}
use mathlib.Core.List.{List}
use mathlib.Core.Logic.{◌⊎◌, inl, inr, ◌≢◌}
use Prim.Native.Nat.{ℕ, ◌+◌, ◌/◌, ◌%◌, ◌<◌}
use native.Mathlib.Nat.{div-add-mod'}
use native.Mathlib.Omega.{arith}
use lib.ListN.{length, set, length-set}
use lib.Seq.{get_or-set_same, get_or-set_other}
use Rattle.words.specs.Word.{word, put_word}

pub length-put_word : (s : List ℕ) (at v : ℕ) → length (put_word s at v) ≡ length s
unfolding put_word
length-put_word s at v = simp length-set

-- a value is read back where it was stored
pub word_same : (s : List ℕ) (at v : ℕ) → at + 1 < length s → word (put_word s at v) at ≡ v
unfolding word put_word
word_same s at v h =
    let inner : at < length s = omega arith in
    let below : at + 1 < length (set s at (v / 256)) = simp length-set h in
    let apart : at ≢ at + 1 = omega arith in
    rw (get_or-set_other (set s at (v / 256)) (at + 1) at (v % 256) 0 apart, get_or-set_same s at (v / 256) 0 inner, get_or-set_same (set s at (v / 256)) (at + 1) (v % 256) 0 below)
    (div-add-mod' v 256)

-- a value at another place stays
apart : (s : List ℕ) (at v b : ℕ) → b ≢ at + 1 → b ≢ at → b + 1 ≢ at + 1 → b + 1 ≢ at → word (put_word s at v) b ≡ word s b
unfolding word put_word
apart s at v b a1 a2 a3 a4 =
    rw (
      get_or-set_other (set s at (v / 256)) (at + 1) b (v % 256) 0 a1,
      get_or-set_other s at b (v / 256) 0 a2,
      get_or-set_other (set s at (v / 256)) (at + 1) (b + 1) (v % 256) 0 a3,
      get_or-set_other s at (b + 1) (v / 256) 0 a4,
    )

pub word_other : (s : List ℕ) (at v b : ℕ) → (b + 1 < at) ⊎ (at + 1 < b) → word (put_word s at v) b ≡ word s b
word_other s at v b (inl h) =
    let a1 : b ≢ at + 1 = omega arith in
    let a2 : b ≢ at = omega arith in
    let a3 : b + 1 ≢ at + 1 = omega arith in
    let a4 : b + 1 ≢ at = omega arith in
    apart s at v b a1 a2 a3 a4
word_other s at v b (inr h) =
    let a1 : b ≢ at + 1 = omega arith in
    let a2 : b ≢ at = omega arith in
    let a3 : b + 1 ≢ at + 1 = omega arith in
    let a4 : b + 1 ≢ at = omega arith in
    apart s at v b a1 a2 a3 a4
