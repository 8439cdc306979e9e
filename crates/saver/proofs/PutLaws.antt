-- Blocks put into a list: one behind another, or in front of one that is there, make one block; and what lies before it is as it was.
-- Assumes nothing.
use Prim.Native.Nat.{ℕ, ◌+◌, ◌/◌, ◌%◌, ◌≤◌, ◌<◌}
use mathlib.Core.Path.{◌≡◌, refl, sym, ap, ap₂, ◌∙◌}
use mathlib.Core.List.{List, [], ◌∷◌, ◌++◌, append_assoc}
use native.Mathlib.Omega.{arith}
use native.Mathlib.Numerals.{add-one}
use lib.ListN.{length, get_or, set, take, drop, length-append, length-drop, take-append-drop}
use lib.Seq.{paste, length-take-le, take-length, append_snoc, take-append-le, drop-append-le, set_split, take-take, get_or-take, drop-drop, take_at, drop_at, take-paste, drop-paste, length-paste}
use Rattle.words.specs.Word.{put_word}
use Rattle.format.specs.Encoding.{word_bytes}
use Rattle.saver.specs.Put.{put}

-- the three parts of a list with a block in it
put_parts : (w b : List ℕ) (at : ℕ) → put w at b ≡ take at w ++ b ++ drop (at + length b) w
put_parts w b at = ap (λ (x : List ℕ). take at w ++ x ++ drop (at + length b) w) (take-length b)

module _ (w b : List ℕ) (at : ℕ) (room : at + length b ≤ length w) where
  pub length-put : length (put w at b) ≡ length w
  length-put = length-paste w at b (length b) room (omega arith)

  -- what comes before it, the block, and what comes behind it
  pub take_put : take at (put w at b) ≡ take at w
  take_put = ap (take at) (put_parts w b at ∙ append_assoc (take at w) b _) ∙ take_at (take at w) (b ++ drop (at + length b) w) at (length-take-le at w (omega arith))

  -- also up to a place further down
  pub front_put : (i : ℕ) → i ≤ at → take i (put w at b) ≡ take i w
  front_put i l = sym (take-take i at (put w at b) l) ∙ ap (take i) take_put ∙ take-take i at w l

  pub drop-put : drop at (put w at b) ≡ b ++ drop (at + length b) w
  drop-put = ap (drop at) (put_parts w b at ∙ append_assoc (take at w) b _) ∙ drop_at (take at w) (b ++ drop (at + length b) w) at (length-take-le at w (omega arith))

  pub block-put : take (length b) (drop at (put w at b)) ≡ b
  block-put = ap (take (length b)) drop-put ∙ take_at b (drop (at + length b) w) (length b) refl

module _ (w a b : List ℕ) (at to : ℕ) (meets : at + length a ≡ to) (room : to + length b ≤ length w) where
  both : at + length (a ++ b) ≡ to + length b
  both = omega (arith, length-append a b, meets)

  -- a block behind another
  pub put-behind : put (put w at a) to b ≡ put w at (a ++ b)
  put-behind =
      let v = put w at a in
      let t : take to v ≡ take at w ++ a =
      ap (λ (j : ℕ). take j v) (sym meets) ∙ take-paste w at a (length a) (omega arith) (omega arith) ∙ ap (λ (x : List ℕ). take at w ++ x) (take-length a) in
      let d : drop to v ≡ drop to w =
      ap (λ (j : ℕ). drop j v) (sym meets) ∙ drop-paste w at a (length a) (omega arith) (omega arith) ∙ ap (λ (j : ℕ). drop j w) meets in
      let e : drop (to + length b) v ≡ drop (to + length b) w = sym (drop-drop (length b) to v) ∙ ap (drop (length b)) d ∙ drop-drop (length b) to w in
      put_parts v b to
      ∙ ap₂ (λ (x y : List ℕ). x ++ b ++ y) t e
      ∙ ap₂ (λ (x : List ℕ) (j : ℕ). x ++ drop j w) (append_assoc (take at w) a b) (sym both)
      ∙ sym (put_parts w (a ++ b) at)

  -- a block in front of another
  pub put_before : put (put w to b) at a ≡ put w at (a ++ b)
  put_before =
      let v = put w to b in
      let t : take at v ≡ take at w =
      ap (take at) (put_parts w b to ∙ append_assoc (take to w) b _) ∙ take-append-le at (take to w) (b ++ drop (to + length b) w) (omega (arith, length-take-le to w (omega arith))) ∙ take-take at to w (omega arith) in
      let d : drop (at + length a) v ≡ b ++ drop (to + length b) w = ap (λ (j : ℕ). drop j v) meets ∙ drop-put w b to room in
      put_parts v a at
      ∙ ap₂ (λ (x y : List ℕ). x ++ a ++ y) t d
      ∙ sym (append_assoc (take at w ++ a) b _)
      ∙ ap₂ (λ (x : List ℕ) (j : ℕ). x ++ drop j w) (append_assoc (take at w) a b) (sym both)
      ∙ sym (put_parts w (a ++ b) at)

-- a byte, a value and a copy as blocks
pub put_byte : (w : List ℕ) (at v : ℕ) → at < length w → set w at v ≡ put w at (v ∷ [])
put_byte w at v h = set_split w at v h ∙ ap (λ (j : ℕ). take at w ++ v ∷ drop j w) (sym (add-one at)) ∙ sym (append_snoc (take at w) v (drop (at + 1) w))

pub put_word_lem : (w : List ℕ) (at v : ℕ) → at + 1 < length w → put_word w at v ≡ put w at (word_bytes v)
unfolding put_word
put_word_lem w at v h =
    let n : length (put w at (v / 256 ∷ [])) ≡ length w = length-put w (v / 256 ∷ []) at (omega arith) in
    ap (λ (x : List ℕ). set x (at + 1) (v % 256)) (put_byte w at (v / 256) (omega arith))
    ∙ put_byte (put w at (v / 256 ∷ [])) (at + 1) (v % 256) (omega (arith, n))
    ∙ put-behind w (v / 256 ∷ []) (v % 256 ∷ []) at (at + 1) refl (omega arith)

pub put_copy : (w s : List ℕ) (to from n : ℕ) → from + n ≤ length s → paste w to (drop from s) n ≡ put w to (take n (drop from s))
put_copy w s to from n h =
    let l : length (take n (drop from s)) ≡ n = length-take-le n (drop from s) (omega (arith, length-drop from s)) in
    sym (ap (λ (x : List ℕ). take to w ++ x ++ drop (to + n) w) (take-take n n (drop from s) (omega arith))) ∙ ap (λ (j : ℕ). take to w ++ take j (take n (drop from s)) ++ drop (to + j) w) (sym l)

-- a byte, a value and a copy behind a block that was put there
module _ (w v b : List ℕ) (at to : ℕ) (so : v ≡ put w at b) (meets : at + length b ≡ to) where
  behind : (a : List ℕ) → to + length a ≤ length w → put v to a ≡ put w at (b ++ a)
  behind a h = ap (λ (x : List ℕ). put x to a) so ∙ put-behind w b a at to meets h

  same_length : to ≤ length w → length v ≡ length w
  same_length h = ap length so ∙ length-put w b at (omega (arith, meets))

  pub byte_behind : (x : ℕ) → to < length w → set v to x ≡ put w at (b ++ (x ∷ []))
  byte_behind x h = put_byte v to x (omega (arith, same_length (omega arith))) ∙ behind (x ∷ []) (omega arith)

  pub word-behind : (x : ℕ) → to + 1 < length w → put_word v to x ≡ put w at (b ++ word_bytes x)
  word-behind x h = put_word_lem v to x (omega (arith, same_length (omega arith))) ∙ behind (word_bytes x) (omega arith)

  pub copy_behind : (s : List ℕ) (from n : ℕ) → from + n ≤ length s → to + n ≤ length w → paste v to (drop from s) n ≡ put w at (b ++ take n (drop from s))
  copy_behind s from n h r = put_copy v s to from n h ∙ behind (take n (drop from s)) (omega (arith, length-take-le n (drop from s) (omega (arith, length-drop from s))))

-- blocks of two lists that are the same up to a place
pub block_same : (w v : List ℕ) (at from n : ℕ) → take at v ≡ take at w → at ≤ length w → at ≤ length v → from + n ≤ at → take n (drop from v) ≡ take n (drop from w)
block_same w v at from n e h k l = front v k ∙ ap (λ (x : List ℕ). take n (drop from x)) e ∙ sym (front w h)
  where
    front : (x : List ℕ) → at ≤ length x → take n (drop from x) ≡ take n (drop from (take at x))
    front x m =
        let p : length (take at x) ≡ at = length-take-le at x m in
        ap (λ (y : List ℕ). take n (drop from y)) (sym (take-append-drop at x))
        ∙ ap (take n) (drop-append-le from (take at x) (drop at x) (omega arith))
        ∙ take-append-le n (drop from (take at x)) (drop at x) (omega (arith, length-drop from (take at x)))

-- two lists that are the same up to a place are so byte for byte
pub same_below : (w v : List ℕ) (at : ℕ) → take at v ≡ take at w → (i : ℕ) → i < at → get_or v i 0 ≡ get_or w i 0
same_below w v at e i h = sym (get_or-take at v i 0 h) ∙ ap (λ (x : List ℕ). get_or x i 0) e ∙ get_or-take at w i 0 h
