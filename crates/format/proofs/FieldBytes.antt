-- Values and fields of a file, and their bytes: where a value or a field stands its bytes lie, and the other way round.
-- Assumes nothing.
use mathlib.Core.Path.{◌≡◌, sym, subst, ap, ap₂, ◌∙◌}
use mathlib.Core.List.{List, ◌∷◌, ◌++◌}
use Prim.Native.Nat.{ℕ, ◌+◌, ◌<◌, ◌/◌, ◌%◌}
use native.Mathlib.Nat.{add-zero}
use native.Mathlib.Numerals.{add-one}
use native.Mathlib.Omega.{arith}
use lib.ListN.{length, get_or, drop, length-append, length-drop}
use lib.Seq.{drop-cons, drop-drop, get_or-drop}
use Rattle.words.specs.Word.{word}
use Rattle.format.specs.Encoding.{Bytes, word_bytes, field_bytes}
use Rattle.format.specs.Standing.{Head}

module _ (s : List ℕ) (bytes : Bytes s) where
  drop_byte : (k : ℕ) → k < length s → drop k s ≡ get_or s k 0 ∷ drop (k + 1) s
  drop_byte k h = drop-cons s k 0 h ∙ ap (λ (j : ℕ). get_or s k 0 ∷ drop j s) (sym (add-one k))

  pub value_bytes : (k v : ℕ) → word s k ≡ v → k + 1 < length s → drop k s ≡ word_bytes v ++ drop (k + 2) s
  unfolding word
  value_bytes k v e h =
      let a : get_or s k 0 ≡ v / 256 = omega (arith, bytes k, bytes (k + 1)) in
      let b : get_or s (k + 1) 0 ≡ v % 256 = omega (arith, bytes k, bytes (k + 1)) in
      let c : k + 1 + 1 ≡ k + 2 = omega arith in
      drop_byte k (omega arith) ∙ ap₂ (λ (x : ℕ) (l : List ℕ). x ∷ l) a (drop_byte (k + 1) h ∙ ap₂ (λ (x : ℕ) (l : List ℕ). x ∷ l) b (ap (λ (j : ℕ). drop j s) c))

  pub field_bytes_lem : (at tag len : ℕ) (l : List ℕ) → Head s at tag len → length l ≡ len → drop (at + 3) s ≡ l ++ drop (at + 3 + len) s → drop at s ≡ field_bytes tag l ++ drop (at + 3 + len) s
  field_bytes_lem at tag len l h n e =
      let c : at + 1 + 2 ≡ at + 3 = omega arith in
      drop_byte at (omega (arith, h)) ∙ ap₂ (λ (x : ℕ) (m : List ℕ). x ∷ m) h.tag_is
      (value_bytes (at + 1) (length l) (h.length_is ∙ sym n) (omega (arith, h)) ∙ ap (λ (j : ℕ). word_bytes (length l) ++ drop j s) c ∙ ap (λ (m : List ℕ). word_bytes (length l) ++ m) e)

module _ (s : List ℕ) where
  first_byte : (k x : ℕ) (r : List ℕ) → drop k s ≡ x ∷ r → (get_or s k 0 ≡ x) × (drop (k + 1) s ≡ r) × (k < length s)
  first_byte k x r e = (
    ap (λ (j : ℕ). get_or s j 0) (sym (add-zero k)) ∙ sym (get_or-drop k s 0 0) ∙ ap (λ (l : List ℕ). get_or l 0 0) e,
    sym (drop-drop 1 k s) ∙ ap (λ (l : List ℕ). drop 1 l) e,
    omega (arith, sym (length-drop k s) ∙ ap length e),
  )

  pub value_lies : (k v : ℕ) (r : List ℕ) → v < 65536 → drop k s ≡ word_bytes v ++ r → (word s k ≡ v) × (drop (k + 2) s ≡ r) × (k + 1 < length s)
  unfolding word
  value_lies k v r h e =
      let a = first_byte k (v / 256) (v % 256 ∷ r) e in
      let b = first_byte (k + 1) (v % 256) r a.1 in
      let c : k + 1 + 1 ≡ k + 2 = omega arith in
      (omega (arith, a.0, b.0), subst (λ (j : ℕ). drop j s ≡ r) c b.1, b.2)

  pub field_lies : (at tag len : ℕ) (l r : List ℕ) → length l ≡ len → len < 65536 → drop at s ≡ field_bytes tag l ++ r → Head s at tag len × (drop (at + 3) s ≡ l ++ r)
  field_lies at tag len l r n h e =
      let a = first_byte at tag (word_bytes (length l) ++ (l ++ r)) e in
      let b = value_lies (at + 1) (length l) (l ++ r) (omega arith) a.1 in
      let c : at + 1 + 2 ≡ at + 3 = omega arith in
      let d = subst (λ (j : ℕ). drop j s ≡ l ++ r) c b.1 in
      (record { tag_is = a.0; length_is = b.0 ∙ n; inside = omega (arith, sym (length-drop (at + 3) s) ∙ ap length d, length-append l r, a.2, b.2) }, d)
