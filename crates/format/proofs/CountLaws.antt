-- From the place of a term to its end there are as many headers as it has term fields, and no other number of them: by induction over the term.
-- Assumes nothing.
use mathlib.Core.Path.{◌≡◌, refl, sym, subst, ap, ◌∙◌}
use mathlib.Core.List.{List}
use Prim.Native.Nat.{ℕ, zero, suc, ◌+◌, ◌*◌, ◌≤◌}
use native.Mathlib.Omega.{arith}
use Rattle.format.specs.Tags.{rows, find_row, row_of, least_of}
use Rattle.format.specs.Terms.{Term, atomic, id, label, sequence, tensor, empty, alternation, assert, defined, size, fields}
use Rattle.format.specs.Standing.{Head, Stands}
use Rattle.format.specs.Count.{next_header, OfTerm, Counted}

module _ (s : List ℕ) where
  -- three bytes at least for each header
  pub counted_few : (n at end : ℕ) → Counted s at end n → at + n * 3 ≤ end
  unfolding Counted
  counted_few zero at end c = omega (arith, c)
  counted_few (suc n) at end c = omega (arith, counted_few n (next_header s at) end c.1)

  -- one number only
  counted_once : (n m at end : ℕ) → Counted s at end n → Counted s at end m → n ≡ m
  unfolding Counted
  counted_once zero zero at end c d = refl
  counted_once zero (suc m) at end c d = absurd (omega (arith, c, counted_few (suc m) at end d))
  counted_once (suc n) zero at end c d = absurd (omega (arith, d, counted_few (suc n) at end c))
  counted_once (suc n) (suc m) at end c d = ap suc (counted_once n m (next_header s at) end c.1 d.1)

  -- headers behind others
  pub counted-append : (n m at mid end : ℕ) → Counted s at mid n → Counted s mid end m → Counted s at end (n + m)
  unfolding Counted
  counted-append zero m at mid end c d = let all : m ≡ 0 + m = omega arith in subst (Counted s at end) all (subst (λ (i : ℕ). Counted s i end m) (sym c) d)
  counted-append (suc n) m at mid end c d = let all : suc (n + m) ≡ suc n + m = omega arith in subst (Counted s at end) all (c.0, counted-append n m (next_header s at) mid end c.1 d)

  -- a header, with the values in front of its inner terms
  header-counted : (at end tag len : ℕ) → Head s at tag len → OfTerm tag → at + 3 + least_of tag ≡ end → Counted s at end 1
  unfolding Counted
  header-counted at end tag len h o e = (subst OfTerm (sym h.tag_is) o, ap (λ (k : ℕ). at + 3 + least_of k) h.tag_is ∙ e)

  -- a field with two inner terms
  pair-counted : (t u : Term) (at end tag : ℕ) → Head s at tag (size t + size u) → OfTerm tag → least_of tag ≡ 0
      → Counted s (at + 3) (at + 3 + size t) (fields t) → Counted s (at + 3 + size t) end (fields u) → Counted s at end (1 + fields t + fields u)
  pair-counted t u at end tag h o e c d =
      let mid = at + 3 + size t in
      counted-append (1 + fields t) (fields u) at mid end (counted-append 1 (fields t) at (at + 3) mid (header-counted at (at + 3) tag (size t + size u) h o (omega (arith, e))) c) d

  term_counted : (t : Term) (at end : ℕ) → Stands s at t → at + size t ≡ end → Counted s at end (fields t)
  unfolding Stands size fields least_of row_of rows find_row
  term_counted (atomic a) at end st e = header-counted at end 16 2 st.0 (omega arith, omega arith) (omega (arith, e))
  term_counted id at end st e = header-counted at end 17 0 st (omega arith, omega arith) (omega (arith, e))
  term_counted (label l t) at end st e =
      counted-append 1 (fields t) at (at + 5) end (header-counted at (at + 5) 18 (2 + size t) st.0 (omega arith, omega arith) (omega arith)) (term_counted t (at + 5) end st.2 (omega (arith, e)))
  term_counted (sequence t u) at end st e =
      pair-counted t u at end 19 st.0 (omega arith, omega arith) refl (term_counted t (at + 3) (at + 3 + size t) st.1 refl) (term_counted u (at + 3 + size t) end st.2 (omega (arith, e)))
  term_counted (tensor t u) at end st e =
      pair-counted t u at end 20 st.0 (omega arith, omega arith) refl (term_counted t (at + 3) (at + 3 + size t) st.1 refl) (term_counted u (at + 3 + size t) end st.2 (omega (arith, e)))
  term_counted empty at end st e = header-counted at end 21 0 st (omega arith, omega arith) (omega (arith, e))
  term_counted (alternation t u) at end st e =
      pair-counted t u at end 22 st.0 (omega arith, omega arith) refl (term_counted t (at + 3) (at + 3 + size t) st.1 refl) (term_counted u (at + 3 + size t) end st.2 (omega (arith, e)))
  term_counted (assert γ) at end st e = header-counted at end 23 2 st.0 (omega arith, omega arith) (omega (arith, e))
  term_counted (defined d) at end st e = header-counted at end 24 2 st.0 (omega arith, omega arith) (omega (arith, e))

-- the term that stands at a place
module _ (s : List ℕ) (at end : ℕ) (t : Term) (st : Stands s at t) (ends : end ≡ at + size t) where
  -- as many headers as its term fields
  pub fields-counted : Counted s at end (fields t)
  fields-counted = term_counted s t at end st (sym ends)

  -- and no other number
  pub counted-fields : (n : ℕ) → Counted s at end n → n ≡ fields t
  counted-fields n c = counted_once s n (fields t) at end c fields-counted
