-- What the code leaves, from what its parts leave: a label, and the sign of a pair with the state behind it.
-- Assumes nothing.
use mathlib.Core.Path.{◌≡◌, ap, ◌∙◌}
use mathlib.Core.List.{List, [], ◌∷◌}
use Prim.Native.Nat.{ℕ, ◌+◌}
use native.Mathlib.Omega.{arith}
use lib.ListN.{length, set, length-append}
use lib.Seq.{sets}
use borrow.Author.Tests.{eq-eqb, ne_eqb}
use Rattle.notation.specs.Written.{decimal}
use Rattle.text_writer.specs.declared.writing.Writing.{Writing}
use Rattle.text_writer.specs.Spelling.{letter_of, label_text, leaf_text, leaf_size}
use Rattle.text_writer.specs.Writing.{passed}
use Rattle.text_writer.proofs.StoreLaws.{sets_more}

pub label_done : (w : List ℕ) (x : Writing) (v n : ℕ) (w₁ : List ℕ) (value : ℕ) → v ≡ value → (n ≡ length (91 ∷ decimal v)) × (w₁ ≡ sets w x.len (91 ∷ decimal v)) → (r : Writing) → r ≡ passed x 5 (n + 1)
    → (r ≡ passed x 5 (length (label_text value))) × (set w₁ (x.len + n) 93 ≡ sets w x.len (label_text value))
label_done w x v n w₁ value e h r q =
    let d : List ℕ = 91 ∷ decimal v in
    let total : n + 1 ≡ length (label_text v) = omega (arith, h.0, length-append d (93 ∷ [])) in (
      q ∙ ap (passed x 5) (total ∙ ap (λ (k : ℕ). length (label_text k)) e),
      ap (λ (l : List ℕ). set l (x.len + n) 93) h.1
          ∙ ap (λ (i : ℕ). set (sets w x.len d) (x.len + i) 93) h.0
          ∙ sets_more d (93 ∷ []) w x.len
          ∙ ap (λ (k : ℕ). sets w x.len (label_text k)) e,
    )

-- a leaf of two bytes, and one with a number
module _ (w : List ℕ) (x : Writing) (tag value : ℕ) (w' : List ℕ) (r : Writing) where
  abbrev LeafDone : Type 0
  LeafDone = (r ≡ passed x (leaf_size tag) (length (leaf_text tag value))) × (w' ≡ sets w x.len (leaf_text tag value))

  pub id_done : tag ≡ 17 → w' ≡ sets w x.len (105 ∷ 100 ∷ []) → r ≡ passed x 3 2 → LeafDone
  unfolding leaf_size leaf_text
  id_done e v q = rw (eq-eqb tag 17 e) (q, v)

  pub empty_done : (tag ≡ 17 → ⊥) → tag ≡ 21 → w' ≡ sets w x.len (60 ∷ 62 ∷ []) → r ≡ passed x 3 2 → LeafDone
  unfolding leaf_size leaf_text
  empty_done n e v q = rw (ne_eqb tag 17 n, eq-eqb tag 21 e) (q, v)

  pub number-done : (tag ≡ 17 → ⊥) → (tag ≡ 21 → ⊥) → (letter v n : ℕ) → letter ≡ letter_of tag → v ≡ value → (n ≡ length (letter ∷ decimal v)) × (w' ≡ sets w x.len (letter ∷ decimal v)) → r ≡ passed x 5 n → LeafDone
  unfolding leaf_size leaf_text
  number-done i j letter v n a e h q =
      let same : letter ∷ decimal v ≡ letter_of tag ∷ decimal value = λ k. a k ∷ decimal (e k) in
      rw (ne_eqb tag 17 i, ne_eqb tag 21 j)
      (q ∙ ap (passed x 5) (h.0 ∙ ap length same), h.1 ∙ ap (sets w x.len) same)

pub five_bytes : (tag : ℕ) → (tag ≡ 17 → ⊥) → (tag ≡ 21 → ⊥) → leaf_size tag ≡ 5
unfolding leaf_size
five_bytes tag i j = rw (ne_eqb tag 17 i, ne_eqb tag 21 j)
