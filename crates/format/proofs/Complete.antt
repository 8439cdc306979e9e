-- A term that stands at a place, within the limits, is what is read there: by induction over the term.
-- Assumes nothing.
use mathlib.Core.Path.{◌≡◌, refl, subst, ap, ap₂, ◌∙◌}
use mathlib.Core.List.{List}
use Prim.Native.Nat.{ℕ, zero, suc, ◌+◌, ◌≤◌, ◌<◌, ◌%◌}
use native.Mathlib.Nat.{add-zero}
use native.Mathlib.Omega.{arith}
use lib.Dec.{leb}
use borrow.Author.Tests.{eq-eqb, lt-leb}
use Rattle.words.specs.Word.{word}
use Rattle.format.specs.Limits.{most_term_fields}
use Rattle.format.specs.Results.{Result, gives, and_then}
use Rattle.format.specs.Values.{rule_name, goal, label_of, tactic_no}
use Rattle.format.specs.Tags.{rows, find_row, row_of, kind_of, least_of, most_of, inner_of, hiproof_kind, tactic_kind}
use Rattle.format.specs.Headers.{header, header_at}
use Rattle.format.specs.Terms.{Term, atomic, id, label, sequence, tensor, empty, alternation, assert, defined, size, fields, Hiproof}
use Rattle.format.specs.ReadTerms.{ParsedTerm, parsed_term, closed, leaf, pair, contents, term_of, read_term}
use Rattle.format.specs.Encoding.{Bytes}
use Rattle.format.specs.Standing.{Head, Stands}
use Rattle.format.proofs.HeaderLaws.{field_at}

abbrev read : Term → (next count : ℕ) → Result ParsedTerm
read t next n = gives (parsed_term t next n)

same : (t : Term) {a b m n : ℕ} → a ≡ b → m ≡ n → read t a m ≡ read t b n
same t p q = ap₂ (read t) p q

module _ (s : List ℕ) (bytes : Bytes s) (high : ℕ) (low : hiproof_kind ≤ high) where
  value : (k : ℕ) → word s k ≤ 65535
  unfolding word
  value k = omega (arith, bytes k, bytes (k + 1))

  header_is : (at end n tag len : ℕ) → Head s at tag len → at + 3 + len ≤ end → n < most_term_fields → hiproof_kind ≤ kind_of tag → kind_of tag ≤ high → least_of tag ≤ len → len ≤ most_of tag → (inner_of tag ≡ 0 → len % 2 ≡ 0)
      → header_at s at end hiproof_kind high (leb most_term_fields n) ≡ gives (header tag len)
  header_is at end n tag len h e m l u z w v = field_at s at end hiproof_kind high (leb most_term_fields n) tag len h.tag_is h.length_is e l u (lt-leb most_term_fields n m) z w v

  one_inner : (f at end n tag l : ℕ) (op : Term → Term) (t : Term) → l ≡ least_of tag
      → read_term f s high (at + 3 + l) end n ≡ read t (at + 3 + l + size t) (n + fields t) → at + 3 + l + size t ≡ end
      → and_then (read_term f s high (at + 3 + least_of tag) end n) (λ u. closed at end (op u.term) u.next u.count) ≡ read (op t) end (n + fields t)
  unfolding and_then closed
  one_inner f at end n tag l op t el e q = simp (← el, e, eq-eqb _ _ q) (same (op t) q refl)

  two_inner : (f at end n : ℕ) (op : Term → Term → Term) (a b : Term)
      → read_term f s high (at + 3) end n ≡ read a (at + 3 + size a) (n + fields a)
      → read_term f s high (at + 3 + size a) end (n + fields a) ≡ read b (at + 3 + size a + size b) (n + fields a + fields b) → at + 3 + size a + size b ≡ end
      → and_then (read_term f s high (at + 3 + 0) end n) (λ u. and_then (read_term f s high u.next end u.count) (λ v. closed at end (op u.term v.term) v.next v.count)) ≡ read (op a b) end (n + fields a + fields b)
  unfolding and_then closed
  two_inner f at end n op a b e e₂ q = simp (add-zero, e, e₂, eq-eqb _ _ q) (same (op a b) q refl)

  size_pos : (t : Term) → 3 ≤ size t
  unfolding size
  size_pos (atomic a) = omega arith
  size_pos id = omega arith
  size_pos (label l t) = omega arith
  size_pos (sequence a b) = omega arith
  size_pos (tensor a b) = omega arith
  size_pos empty = omega arith
  size_pos (alternation a b) = omega arith
  size_pos (assert g) = omega arith
  size_pos (defined d) = omega arith

  -- the limits: kinds up to high, the end of what encloses it, 4,096 term fields
  pub complete : (t : Term) (f at end n : ℕ) → Stands s at t → (high < tactic_kind → Hiproof t) → at + size t ≤ end → n + fields t ≤ most_term_fields → size t ≤ f → read_term f s high at end n ≡ read t (at + size t) (n + fields t)
  unfolding read_term and_then term_of contents inner_of row_of find_row rows least_of most_of kind_of leaf pair size fields Stands Hiproof
  complete t zero at end n st hp e m d = absurd (omega (arith, size_pos t))
  complete (atomic a) (suc f) at end n st hp e m d = rw (header_is at end n 16 2 st.0 (omega arith) (omega arith) (omega arith) (omega arith) (omega arith) (omega (arith, value (at + 1), st.0)) (λ z. refl)) (ap₂ (λ v k. read (atomic (rule_name v)) k (n + 1)) st.1 (omega arith))
  complete id (suc f) at end n st hp e m d = rw (header_is at end n 17 0 (st) (omega arith) (omega arith) (omega arith) (omega arith) (omega arith) (omega (arith, value (at + 1), st)) (λ z. refl)) (same id (omega arith) refl)
  complete (label l t) (suc f) at end n st hp e m d =
      let close = at + 3 + (2 + size t) in
      rw (header_is at end n 18 (2 + size t) st.0 (omega arith) (omega arith) (omega arith) (omega arith) (omega arith) (omega (arith, value (at + 1), st.0)) (λ z. absurd (omega arith)))
      (one_inner f at close (n + 1) 18 2 (label (label_of (word s (at + 3)))) t refl
      (complete t f (at + 3 + 2) close (n + 1) (subst (λ (k : ℕ). Stands s k t) (omega arith) st.2) hp (omega arith) (omega arith) (omega arith))
      (omega arith)
      ∙ ap (λ v. read (label (label_of v) t) close (n + 1 + fields t)) st.1
      ∙ same (label l t) (omega arith) (omega arith))
  complete (sequence a b) (suc f) at end n st hp e m d =
      let close = at + 3 + (size a + size b) in
      rw (header_is at end n 19 (size a + size b) st.0 (omega arith) (omega arith) (omega arith) (omega arith) (omega arith) (omega (arith, value (at + 1), st.0)) (λ z. absurd (omega arith)))
      (two_inner f at close (n + 1) sequence a b
      (complete a f (at + 3) close (n + 1) st.1 (λ h. (hp h).0) (omega arith) (omega arith) (omega (arith, size_pos b)))
      (complete b f (at + 3 + size a) close (n + 1 + fields a) st.2 (λ h. (hp h).1) (omega arith) (omega arith) (omega (arith, size_pos a)))
      (omega arith)
      ∙ same (sequence a b) (omega arith) (omega arith))
  complete (tensor a b) (suc f) at end n st hp e m d =
      let close = at + 3 + (size a + size b) in
      rw (header_is at end n 20 (size a + size b) st.0 (omega arith) (omega arith) (omega arith) (omega arith) (omega arith) (omega (arith, value (at + 1), st.0)) (λ z. absurd (omega arith)))
      (two_inner f at close (n + 1) tensor a b
      (complete a f (at + 3) close (n + 1) st.1 (λ h. (hp h).0) (omega arith) (omega arith) (omega (arith, size_pos b)))
      (complete b f (at + 3 + size a) close (n + 1 + fields a) st.2 (λ h. (hp h).1) (omega arith) (omega arith) (omega (arith, size_pos a)))
      (omega arith)
      ∙ same (tensor a b) (omega arith) (omega arith))
  complete empty (suc f) at end n st hp e m d = rw (header_is at end n 21 0 (st) (omega arith) (omega arith) (omega arith) (omega arith) (omega arith) (omega (arith, value (at + 1), st)) (λ z. refl)) (same empty (omega arith) refl)
  complete (alternation a b) (suc f) at end n st hp e m d =
      let close = at + 3 + (size a + size b) in
      rw (header_is at end n 22 (size a + size b) st.0 (omega arith) (omega arith) (omega arith) (omega (arith, hp)) (omega arith) (omega (arith, value (at + 1), st.0)) (λ z. absurd (omega arith)))
      (two_inner f at close (n + 1) alternation a b
      (complete a f (at + 3) close (n + 1) st.1 (λ h. absurd (hp h)) (omega arith) (omega arith) (omega (arith, size_pos b)))
      (complete b f (at + 3 + size a) close (n + 1 + fields a) st.2 (λ h. absurd (hp h)) (omega arith) (omega arith) (omega (arith, size_pos a)))
      (omega arith)
      ∙ same (alternation a b) (omega arith) (omega arith))
  complete (assert g) (suc f) at end n st hp e m d = rw (header_is at end n 23 2 st.0 (omega arith) (omega arith) (omega arith) (omega (arith, hp)) (omega arith) (omega (arith, value (at + 1), st.0)) (λ z. refl)) (ap₂ (λ v k. read (assert (goal v)) k (n + 1)) st.1 (omega arith))
  complete (defined x) (suc f) at end n st hp e m d = rw (header_is at end n 24 2 st.0 (omega arith) (omega arith) (omega arith) (omega (arith, hp)) (omega arith) (omega (arith, value (at + 1), st.0)) (λ z. refl)) (ap₂ (λ v k. read (defined (tactic_no v)) k (n + 1)) st.1 (omega arith))
