-- A term that stands at a place of a file of bytes is its encoding there: by induction over the term, field by field.
-- Assumes nothing.
use mathlib.Core.Path.{◌≡◌, refl, sym, subst, ap, ◌∙◌}
use mathlib.Core.List.{List, [], ◌++◌, append_assoc}
use Prim.Native.Nat.{ℕ, ◌+◌}
use native.Mathlib.Nat.{add-zero}
use native.Mathlib.Omega.{arith}
use lib.ListN.{length, drop, length-append}
use Rattle.format.specs.Terms.{Term, atomic, id, label, sequence, tensor, empty, alternation, assert, defined, size}
use Rattle.format.specs.Encoding.{Bytes, word_bytes, term_bytes}
use Rattle.format.specs.Standing.{Stands}
use Rattle.format.proofs.FieldBytes.{value_bytes, field_bytes_lem}

pub length-term_bytes : (t : Term) → length (term_bytes t) ≡ size t
unfolding term_bytes size
length-term_bytes (atomic a) = refl
length-term_bytes id = refl
length-term_bytes (label l t) = omega (arith, length-term_bytes t)
length-term_bytes (sequence a b) = omega (arith, length-append (term_bytes a) (term_bytes b), length-term_bytes a, length-term_bytes b)
length-term_bytes (tensor a b) = omega (arith, length-append (term_bytes a) (term_bytes b), length-term_bytes a, length-term_bytes b)
length-term_bytes empty = refl
length-term_bytes (alternation a b) = omega (arith, length-append (term_bytes a) (term_bytes b), length-term_bytes a, length-term_bytes b)
length-term_bytes (assert g) = refl
length-term_bytes (defined d) = refl

module _ (s : List ℕ) (bytes : Bytes s) where
  -- the end of the field, as the term's size has it
  at_size : (at : ℕ) (t : Term) (k : ℕ) → k ≡ at + size t → drop at s ≡ term_bytes t ++ drop k s → drop at s ≡ term_bytes t ++ drop (at + size t) s
  at_size at t k e h = subst (λ (j : ℕ). drop at s ≡ term_bytes t ++ drop j s) e h

  pair : (at : ℕ) (a b : Term) → drop (at + 3) s ≡ term_bytes a ++ drop (at + 3 + size a) s → drop (at + 3 + size a) s ≡ term_bytes b ++ drop (at + 3 + size a + size b) s
      → drop (at + 3) s ≡ (term_bytes a ++ term_bytes b) ++ drop (at + 3 + (size a + size b)) s
  pair at a b e f =
      let c : at + 3 + size a + size b ≡ at + 3 + (size a + size b) = omega arith in
      e ∙ ap (λ (m : List ℕ). term_bytes a ++ m) (f ∙ ap (λ (j : ℕ). term_bytes b ++ drop j s) c) ∙ sym (append_assoc (term_bytes a) (term_bytes b) _)

  both : (a b : Term) → length (term_bytes a ++ term_bytes b) ≡ size a + size b
  both a b = omega (arith, length-append (term_bytes a) (term_bytes b), length-term_bytes a, length-term_bytes b)

  pub term_bytes_lem : (t : Term) (at : ℕ) → Stands s at t → drop at s ≡ term_bytes t ++ drop (at + size t) s
  unfolding Stands term_bytes size
  term_bytes_lem (atomic a) at st = at_size at (atomic a) (at + 3 + 2) (omega arith) (field_bytes_lem s bytes at 16 2 (word_bytes a.0) st.0 refl (value_bytes s bytes (at + 3) a.0 st.1 (omega (arith, st.0))))
  term_bytes_lem id at st = at_size at id (at + 3 + 0) (omega arith) (field_bytes_lem s bytes at 17 0 [] st refl (ap (λ (j : ℕ). drop j s) (sym (add-zero (at + 3)))))
  term_bytes_lem (label l t) at st =
      let c : at + 5 ≡ at + 3 + 2 = omega arith in
      let d : at + 5 + size t ≡ at + 3 + (2 + size t) = omega arith in
      at_size at (label l t) (at + 3 + (2 + size t)) (omega arith)
      (field_bytes_lem s bytes at 18 (2 + size t) (word_bytes l.0 ++ term_bytes t) st.0 (omega (arith, length-term_bytes t))
      (value_bytes s bytes (at + 3) l.0 st.1 (omega (arith, st.0)) ∙ ap (λ (m : List ℕ). word_bytes l.0 ++ m) (ap (λ (j : ℕ). drop j s) (sym c) ∙ term_bytes_lem t (at + 5) st.2 ∙ ap (λ (j : ℕ). term_bytes t ++ drop j s) d)))
  term_bytes_lem (sequence a b) at st = at_size at (sequence a b) (at + 3 + (size a + size b)) (omega arith) (field_bytes_lem s bytes at 19 (size a + size b) (term_bytes a ++ term_bytes b) st.0 (both a b) (pair at a b (term_bytes_lem a (at + 3) st.1) (term_bytes_lem b (at + 3 + size a) st.2)))
  term_bytes_lem (tensor a b) at st = at_size at (tensor a b) (at + 3 + (size a + size b)) (omega arith) (field_bytes_lem s bytes at 20 (size a + size b) (term_bytes a ++ term_bytes b) st.0 (both a b) (pair at a b (term_bytes_lem a (at + 3) st.1) (term_bytes_lem b (at + 3 + size a) st.2)))
  term_bytes_lem empty at st = at_size at empty (at + 3 + 0) (omega arith) (field_bytes_lem s bytes at 21 0 [] st refl (ap (λ (j : ℕ). drop j s) (sym (add-zero (at + 3)))))
  term_bytes_lem (alternation a b) at st = at_size at (alternation a b) (at + 3 + (size a + size b)) (omega arith) (field_bytes_lem s bytes at 22 (size a + size b) (term_bytes a ++ term_bytes b) st.0 (both a b) (pair at a b (term_bytes_lem a (at + 3) st.1) (term_bytes_lem b (at + 3 + size a) st.2)))
  term_bytes_lem (assert g) at st = at_size at (assert g) (at + 3 + 2) (omega arith) (field_bytes_lem s bytes at 23 2 (word_bytes g.0) st.0 refl (value_bytes s bytes (at + 3) g.0 st.1 (omega (arith, st.0))))
  term_bytes_lem (defined d) at st = at_size at (defined d) (at + 3 + 2) (omega arith) (field_bytes_lem s bytes at 24 2 (word_bytes d.0) st.0 refl (value_bytes s bytes (at + 3) d.0 st.1 (omega (arith, st.0))))
