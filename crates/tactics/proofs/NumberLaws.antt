-- A value of 24 or of 32 bits is read back where it was stored, a header's tag and length likewise: each part is apart from the one stored before it.
-- Assumes nothing.
use Prim.Native.Nat.{ℕ, ◌+◌, ◌*◌, ◌/◌, ◌%◌, ◌≤◌, ◌<◌}
use mathlib.Core.Path.{◌≡◌, ap₂, ◌∙◌}
use mathlib.Core.List.{List}
use mathlib.Core.Logic.{inl}
use native.Mathlib.Nat.{div-add-mod'}
use native.Mathlib.Omega.{arith}
use lib.ListN.{length, get_or, set, length-set}
use lib.Seq.{get_or-set_same, get_or-set_other}
use Rattle.words.specs.Word.{word, put_word}
use Rattle.words.proofs.WordLaws.{length-put_word, word_same, word_other}
use Rattle.format.specs.Standing.{Head}
use Rattle.tactics.specs.Memory.{Same, Only}
use Rattle.tactics.specs.Numbers.{triple, put_triple, long, put_long, put_header}
use Rattle.tactics.proofs.MemoryLaws.{only_set, only_then, only_wider, only_word, same_word}

pub same_long : (w v : List ℕ) (x y at : ℕ) → Same x y w v → x ≤ at → at + 3 < y → long v at ≡ long w at
unfolding long
same_long w v x y at h l r =
    ap₂ (λ (a b : ℕ). a * 65536 + b) (same_word w v x y at h l (omega arith)) (same_word w v x y (at + 2) h (omega arith) (omega arith))

pub only_long : (w : List ℕ) (at v : ℕ) → Only at (at + 4) w (put_long w at v)
unfolding put_long
only_long w at v =
    only_then at (at + 4) w (put_word w at (v / 65536)) _
    (only_wider at (at + 2) at (at + 4) w _ (only_word w at (v / 65536)) (omega arith) (omega arith))
    (only_wider (at + 2) (at + 2 + 2) at (at + 4) _ _ (only_word _ (at + 2) (v % 65536)) (omega arith) (omega arith))

pub long_same : (w : List ℕ) (at v : ℕ) → at + 3 < length w → long (put_long w at v) at ≡ v
unfolding long put_long
long_same w at v h =
    let w₁ = put_word w at (v / 65536) in
    let l : length w₁ ≡ length w = length-put_word w at (v / 65536) in
    ap₂ (λ (a b : ℕ). a * 65536 + b)
    (word_other w₁ (at + 2) (v % 65536) at (inl (omega arith)) ∙ word_same w at (v / 65536) (omega arith))
    (word_same w₁ (at + 2) (v % 65536) (omega arith))
    ∙ div-add-mod' v 65536

pub only_header : (w : List ℕ) (at tag len : ℕ) → Only at (at + 3) w (put_header w at tag len)
unfolding put_header
only_header w at tag len =
    only_then at (at + 3) w (put_word w (at + 1) len) _
    (only_wider (at + 1) (at + 1 + 2) at (at + 3) w _ (only_word w (at + 1) len) (omega arith) (omega arith))
    (only_wider at (at + 1) at (at + 3) _ _ (only_set _ at tag) (omega arith) (omega arith))

pub header_tag : (w : List ℕ) (at tag len : ℕ) → at < length w → get_or (put_header w at tag len) at 0 ≡ tag
unfolding put_header
header_tag w at tag len h =
    let l : length (put_word w (at + 1) len) ≡ length w = length-put_word w (at + 1) len in
    get_or-set_same (put_word w (at + 1) len) at tag 0 (omega arith)

pub header-length : (w : List ℕ) (at tag len : ℕ) → at + 2 < length w → word (put_header w at tag len) (at + 1) ≡ len
unfolding put_header
header-length w at tag len h =
    let w₁ = put_word w (at + 1) len in
    same_word w₁ (set w₁ at tag) (at + 1) (at + 3) (at + 1) (λ i l r. (only_set w₁ at tag).kept.above i l) (omega arith) (omega arith)
    ∙ word_same w (at + 1) len (omega arith)

pub header_head : (w : List ℕ) (at tag len : ℕ) → at + 3 + len ≤ length w → Head (put_header w at tag len) at tag len
header_head w at tag len h =
    record { tag_is = header_tag w at tag len (omega arith); length_is = header-length w at tag len (omega arith); inside = omega (arith, (only_header w at tag len).same_length) }

pub same_triple : (w v : List ℕ) (x y at : ℕ) → Same x y w v → x ≤ at → at + 2 < y → triple v at ≡ triple w at
unfolding triple
same_triple w v x y at h l r =
    ap₂ (λ (a b : ℕ). a + b * 65536)
    (ap₂ (λ (a b : ℕ). a + b * 256) (h at l (omega arith)) (h (at + 1) (omega arith) (omega arith)))
    (h (at + 2) (omega arith) r)

module _ (w : List ℕ) (at v : ℕ) where
  abbrev low : List ℕ
  low = set w at (v % 256)

  abbrev both : List ℕ
  both = set low (at + 1) (v / 256 % 256)

  pub only_triple : Only at (at + 3) w (put_triple w at v)
  unfolding put_triple
  only_triple =
      only_then at (at + 3) w low _ (only_wider at (at + 1) at (at + 3) w low (only_set w at (v % 256)) (omega arith) (omega arith))
      (only_then at (at + 3) low both _
      (only_wider (at + 1) (at + 1 + 1) at (at + 3) low both (only_set low (at + 1) (v / 256 % 256)) (omega arith) (omega arith))
      (only_wider (at + 2) (at + 2 + 1) at (at + 3) both _ (only_set both (at + 2) (v / 256 / 256)) (omega arith) (omega arith)))

  pub triple_same : at + 2 < length w → triple (put_triple w at v) at ≡ v
  unfolding triple put_triple
  triple_same h =
      let n₁ : length low ≡ length w = length-set w at (v % 256) in
      let n₂ : length both ≡ length low = length-set low (at + 1) (v / 256 % 256) in
      let last = set both (at + 2) (v / 256 / 256) in
      let e₁ : get_or last at 0 ≡ v % 256 =
      get_or-set_other both (at + 2) at (v / 256 / 256) 0 (omega arith) ∙ get_or-set_other low (at + 1) at (v / 256 % 256) 0 (omega arith) ∙ get_or-set_same w at (v % 256) 0 (omega arith) in
      let e₂ : get_or last (at + 1) 0 ≡ v / 256 % 256 =
      get_or-set_other both (at + 2) (at + 1) (v / 256 / 256) 0 (omega arith) ∙ get_or-set_same low (at + 1) (v / 256 % 256) 0 (omega (arith, n₁)) in
      let e₃ : get_or last (at + 2) 0 ≡ v / 256 / 256 = get_or-set_same both (at + 2) (v / 256 / 256) 0 (omega (arith, n₁, n₂)) in
      omega (arith, e₁, e₂, e₃, div-add-mod' v 256, div-add-mod' (v / 256) 256)
