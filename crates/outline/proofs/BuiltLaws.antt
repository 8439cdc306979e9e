-- The terms of an outline's last fields: how many and how long they are, that a write elsewhere leaves them, that every field has some, and those of a hiproof's outline.
-- Assumes nothing.
use Prim.Native.Nat.{ℕ, zero, suc, ◌+◌, ◌*◌, ◌≤◌, ◌<◌}
use mathlib.Core.Path.{◌≡◌, refl, sym, ap, ap₂, subst, ◌∙◌}
use mathlib.Core.List.{List, [], ◌∷◌, ◌++◌}
use native.Mathlib.Nat.{div-add-mod'}
use native.Mathlib.Omega.{arith}
use lib.ListN.{length, get_or, take, length-append, get_or-append}
use lib.Seq.{get_or-append-add, get_or-take}
use Rattle.words.specs.Word.{word}
use Rattle.format.specs.Terms.{Term, atomic, id, label, sequence, tensor, empty, alternation, assert, defined, size, Hiproof}
use Rattle.format.specs.Encoding.{word_bytes}
use Rattle.tactics.specs.Memory.{Same}
use Rattle.tactics.proofs.MemoryLaws.{same_word}
use Rattle.outline.specs.Outline.{outline_of}
use Rattle.outline.specs.Built.{Built, B-End, B-Atomic, B-Identity, B-Label, B-Sequence, B-Tensor, B-Empty}

-- the bytes of terms one behind the other
unfoldable pub sizes_of : List Term → ℕ
sizes_of [] = 0
sizes_of (t ∷ ts) = size t + sizes_of ts

module _ (w : List ℕ) (count : ℕ) where
  -- each term has a field of its own
  pub built_few : {at : ℕ} {ts : List Term} → Built w count at ts → at + 3 * length ts ≤ count
  built_few (B-End e) = omega arith
  built_few (B-Atomic a b h) = omega (arith, built_few h)
  built_few (B-Identity a h) = omega (arith, built_few h)
  built_few (B-Label a b h) = omega (arith, built_few h)
  built_few (B-Sequence a h) = omega (arith, built_few h)
  built_few (B-Tensor a h) = omega (arith, built_few h)
  built_few (B-Empty a h) = omega (arith, built_few h)

  -- and a field has at most five bytes of its own
  pub built_size : {at : ℕ} {ts : List Term} → Built w count at ts → 3 * sizes_of ts + 5 * at ≤ 5 * count
  unfolding sizes_of size
  built_size (B-End e) = omega arith
  built_size (B-Atomic a b h) = omega (arith, built_size h)
  built_size (B-Identity a h) = omega (arith, built_size h)
  built_size (B-Label a b h) = omega (arith, built_size h)
  built_size (B-Sequence a h) = omega (arith, built_size h)
  built_size (B-Tensor a h) = omega (arith, built_size h)
  built_size (B-Empty a h) = omega (arith, built_size h)

  pub record Some (at : ℕ) : Type 0 where
    pub terms : List Term
    pub built : Built w count at terms

  further : (k at : ℕ) → Some (at + 3 + 3 * k) → Some (at + 3 * suc k)
  further k at x = let e : at + 3 + 3 * k ≡ at + 3 * suc k = omega arith in subst Some e x

  -- from every field on
  pub built_on : (k : ℕ) {at : ℕ} {ts : List Term} → Built w count at ts → at + 3 * k ≤ count → Some (at + 3 * k)
  built_on zero {at = at} {ts = ts} h l = let e : at ≡ at + 3 * 0 = omega arith in record { terms = ts; built = subst (λ (i : ℕ). Built w count i ts) e h }
  built_on (suc k) (B-End e) l = absurd (omega arith)
  built_on (suc k) (B-Atomic a b h) l = further k _ (built_on k h (omega arith))
  built_on (suc k) (B-Identity a h) l = further k _ (built_on k h (omega arith))
  built_on (suc k) (B-Label a b h) l = further k _ (built_on k h (omega arith))
  built_on (suc k) (B-Sequence a h) l = further k _ (built_on k h (omega arith))
  built_on (suc k) (B-Tensor a h) l = further k _ (built_on k h (omega arith))
  built_on (suc k) (B-Empty a h) l = further k _ (built_on k h (omega arith))

  -- a write behind the outline
  module _ (v : List ℕ) (same : Same 0 count w v) where
    tag_kept : (at : ℕ) {tag : ℕ} {ts : List Term} → Built w count (at + 3) ts → get_or w at 0 ≡ tag → get_or v at 0 ≡ tag
    tag_kept at h e = same at (omega arith) (omega (arith, built_few h)) ∙ e

    value_kept : (at : ℕ) {n : ℕ} {ts : List Term} → Built w count (at + 3) ts → word w (at + 1) ≡ n → word v (at + 1) ≡ n
    value_kept at h e = same_word w v 0 count (at + 1) same (omega arith) (omega (arith, built_few h)) ∙ e

    pub built_kept : {at : ℕ} {ts : List Term} → Built w count at ts → Built v count at ts
    built_kept (B-End e) = B-End e
    built_kept (B-Atomic a b h) = B-Atomic (tag_kept _ h a) (value_kept _ h b) (built_kept h)
    built_kept (B-Identity a h) = B-Identity (tag_kept _ h a) (built_kept h)
    built_kept (B-Label a b h) = B-Label (tag_kept _ h a) (value_kept _ h b) (built_kept h)
    built_kept (B-Sequence a h) = B-Sequence (tag_kept _ h a) (built_kept h)
    built_kept (B-Tensor a h) = B-Tensor (tag_kept _ h a) (built_kept h)
    built_kept (B-Empty a h) = B-Empty (tag_kept _ h a) (built_kept h)

  -- bytes that lie in the work space from a place on
  abbrev Lies : (at : ℕ) → List ℕ → Type 0
  Lies at x = (i : ℕ) → i < length x → get_or w (at + i) 0 ≡ get_or x i 0

  byte_lies : (at i j : ℕ) (x : List ℕ) → Lies at x → i < length x → j ≡ at + i → get_or w j 0 ≡ get_or x i 0
  byte_lies at i j x h l e = ap (λ (k : ℕ). get_or w k 0) e ∙ h i l

  lies_tag : (at tag v : ℕ) (x : List ℕ) → Lies at (tag ∷ (word_bytes v ++ x)) → get_or w at 0 ≡ tag
  lies_tag at tag v x h = byte_lies at 0 at (tag ∷ (word_bytes v ++ x)) h (omega arith) (omega arith)

  lies_value : (at tag v : ℕ) (x : List ℕ) → Lies at (tag ∷ (word_bytes v ++ x)) → word w (at + 1) ≡ v
  unfolding word
  lies_value at tag v x h =
      ap₂ (λ (a b : ℕ). a * 256 + b)
      (byte_lies at 1 (at + 1) (tag ∷ (word_bytes v ++ x)) h (omega arith) (omega arith))
      (byte_lies at 2 (at + 1 + 1) (tag ∷ (word_bytes v ++ x)) h (omega arith) (omega arith))
      ∙ div-add-mod' v 256

  lies_inner : (at tag v : ℕ) (x : List ℕ) → Lies at (tag ∷ (word_bytes v ++ x)) → Lies (at + 3) x
  lies_inner at tag v x h i l = byte_lies at (suc (suc (suc i))) (at + 3 + i) (tag ∷ (word_bytes v ++ x)) h (omega arith) (omega arith)

  lies_left : (at : ℕ) (x y : List ℕ) → Lies at (x ++ y) → Lies at x
  lies_left at x y h i l = h i (omega (arith, length-append x y)) ∙ get_or-append x y 0 i l

  lies_right : (at : ℕ) (x y : List ℕ) → Lies at (x ++ y) → Lies (at + length x) y
  lies_right at x y h i l = byte_lies at (length x + i) (at + length x + i) (x ++ y) h (omega (arith, length-append x y)) (omega arith) ∙ get_or-append-add x y i 0

  moved : (at next : ℕ) (ts : List Term) → at + 3 ≡ next → Built w count next ts → Built w count (at + 3) ts
  moved at next ts e b = subst (λ (i : ℕ). Built w count i ts) (sym e) b

  -- the outline of a hiproof, in front of other terms
  outline_built : (p : Term) → Hiproof p → (at next : ℕ) → Lies at (outline_of p) → at + length (outline_of p) ≡ next → (ts : List Term) → Built w count next ts → Built w count at (p ∷ ts)
  unfolding outline_of Hiproof
  outline_built (atomic a) h at next l e ts b = B-Atomic (lies_tag at 16 a.0 [] l) (lies_value at 16 a.0 [] l) (moved at next ts e b)
  outline_built id h at next l e ts b = B-Identity (lies_tag at 17 0 [] l) (moved at next ts e b)
  outline_built (label k t) h at next l e ts b = B-Label (lies_tag at 18 k.0 (outline_of t) l) (lies_value at 18 k.0 (outline_of t) l) (outline_built t h (at + 3) next (lies_inner at 18 k.0 (outline_of t) l) (omega arith) ts b)
  outline_built (sequence s r) h at next l e ts b =
      let inner = lies_inner at 19 0 (outline_of s ++ outline_of r) l in
      B-Sequence (lies_tag at 19 0 (outline_of s ++ outline_of r) l)
      (outline_built s h.0 (at + 3) (at + 3 + length (outline_of s)) (lies_left (at + 3) (outline_of s) (outline_of r) inner) refl (r ∷ ts)
      (outline_built r h.1 (at + 3 + length (outline_of s)) next (lies_right (at + 3) (outline_of s) (outline_of r) inner) (omega (arith, length-append (outline_of s) (outline_of r))) ts b))
  outline_built (tensor s r) h at next l e ts b =
      let inner = lies_inner at 20 0 (outline_of s ++ outline_of r) l in
      B-Tensor (lies_tag at 20 0 (outline_of s ++ outline_of r) l)
      (outline_built s h.0 (at + 3) (at + 3 + length (outline_of s)) (lies_left (at + 3) (outline_of s) (outline_of r) inner) refl (r ∷ ts)
      (outline_built r h.1 (at + 3 + length (outline_of s)) next (lies_right (at + 3) (outline_of s) (outline_of r) inner) (omega (arith, length-append (outline_of s) (outline_of r))) ts b))
  outline_built empty h at next l e ts b = B-Empty (lies_tag at 21 0 [] l) (moved at next ts e b)
  outline_built (alternation s r) h at next l e ts b = absurd h
  outline_built (assert γ) h at next l e ts b = absurd h
  outline_built (defined n) h at next l e ts b = absurd h

pub outlined_built : (w : List ℕ) (count : ℕ) (p : Term) → Hiproof p → take count w ≡ outline_of p → length (outline_of p) ≡ count → Built w count 0 (p ∷ [])
outlined_built w count p h e n =
    outline_built w count p h 0 count (λ i l. index i ∙ sym (get_or-take count w i 0 (omega arith)) ∙ ap (λ (x : List ℕ). get_or x i 0) e) (omega arith) [] (B-End refl)
  where
    index : (i : ℕ) → get_or w (0 + i) 0 ≡ get_or w i 0
    index i = let e : 0 + i ≡ i = omega arith in ap (λ (j : ℕ). get_or w j 0) e
