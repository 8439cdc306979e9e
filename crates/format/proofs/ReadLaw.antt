-- What is read stands where it was read: the term's fields lie at their places, and the offset and the count are those of the term.
-- Assumes nothing.
use mathlib.Core.Path.{◌≡◌, refl, sym, subst, ◌∙◌}
use mathlib.Core.Bool.{Bool, true, false, cond}
use mathlib.Core.List.{List}
use Prim.Native.Nat.{ℕ, zero, suc, ◌+◌, ◌≤◌, ◌<◌}
use native.Mathlib.Omega.{arith}
use lib.Dec.{eqb, leb}
use lib.ListN.{length}
use borrow.Author.Tests.{eqb-true, leb-false}
use Rattle.format.specs.Limits.{most_term_fields}
use Rattle.format.specs.Refusals.{Cause, LengthWrong}
use Rattle.format.specs.Results.{Result, gives, refused, and_then}
use Rattle.format.specs.Tags.{rows, find_row, row_of, kind_of, least_of, most_of, inner_of, hiproof_kind, tactic_kind}
use Rattle.format.specs.Headers.{Header, header_at}
use Rattle.format.specs.Terms.{Term, size, fields, Hiproof}
use Rattle.format.specs.ReadTerms.{ParsedTerm, parsed_term, closed, leaf, pair, contents, term_of, read_term}
use Rattle.format.specs.Standing.{Head, Stands}
use Rattle.format.proofs.ResultLaws.{and_holds}
use Rattle.format.proofs.TermTags.{TermTag, t16, t17, t18, t19, t20, t21, t22, t23, t24, term_tag}
use Rattle.format.proofs.HeaderLaws.{IsField, is_field}

-- what is known of a term that was read
pub record Law (s : List ℕ) (high at end n : ℕ) (r : ParsedTerm) : Type 0 where
  pub stands : Stands s at r.term
  pub next_is : r.next ≡ at + size r.term
  pub within : r.next ≤ end
  pub count_is : r.count ≡ n + fields r.term
  pub room : r.count ≤ most_term_fields
  pub plain : high < tactic_kind → Hiproof r.term

-- the same of whatever reading comes to
unfoldable pub LawOf : List ℕ → (high at end n : ℕ) → Result ParsedTerm → Type 0
LawOf s high at end n (refused c p) = Unit {0}
LawOf s high at end n (gives r) = Law s high at end n r

closed_law : (P : Result ParsedTerm → Type 0) (at end : ℕ) (t : Term) (next n : ℕ) → P (refused LengthWrong at) → (next ≡ end → P (gives (parsed_term t next n))) → P (closed at end t next n)
unfolding closed
closed_law P at end t next n a b = go (eqb next end) refl
  where
    go : (c : Bool) → eqb next end ≡ c → P (cond c (gives (parsed_term t next n)) (refused LengthWrong at))
    go true e = b (eqb-true _ _ e)
    go false e = a

module _ (s : List ℕ) (high : ℕ) (rec : ℕ → ℕ → ℕ → Result ParsedTerm) (ih : (at end n : ℕ) → end ≤ length s → LawOf s high at end n (rec at end n)) (at end n : ℕ) (fit : end ≤ length s) where
  -- the law of an inner term
  inner : (from close k : ℕ) → close ≤ length s → (r : ParsedTerm) → rec from close k ≡ gives r → Law s high from close k r
  unfolding LawOf
  inner from close k f r e = subst (LawOf s high from close k) e (ih from close k f)

  abbrev G : Result ParsedTerm → Type 0
  G = LawOf s high at end n

  abbrev F : ℕ → ℕ → Type 0
  F tag len = IsField s at end hiproof_kind high (leb most_term_fields n) tag len

  no_law : (c : Cause) (p : ℕ) → G (refused c p)
  unfolding LawOf
  no_law c p = tt

  head : (tag len l : ℕ) → F tag len → len ≡ l → Head s at tag l
  head tag len l f e = record { tag_is = sym f.the_tag; length_is = sym f.the_length ∙ e; inside = omega (arith, f) }

  -- a field without inner terms
  leaf_law : (t : Term) (tag len : ℕ) → F tag len → size t ≡ 3 + len → fields t ≡ 1 → (Head s at tag len → Stands s at t) → (high < tactic_kind → Hiproof t) → G (gives (parsed_term t (at + 3 + len) (n + 1)))
  unfolding LawOf
  leaf_law t tag len f z c st hp = record {
    stands = st (head tag len len f refl);
    next_is = omega arith;
    within = f.contents;
    count_is = omega arith;
    room = omega (arith, leb-false, f);
    plain = hp;
  }

  -- a field with one inner term behind two bytes
  one_law : (op : Term → Term) (tag len : ℕ) → F tag len → ((t : Term) → size (op t) ≡ 5 + size t) → ((t : Term) → fields (op t) ≡ 1 + fields t)
      → ((t : Term) → Head s at tag (2 + size t) → Stands s (at + 5) t → Stands s at (op t)) → ((t : Term) → high < tactic_kind → Hiproof t → Hiproof (op t))
      → G (and_then (rec (at + 3 + 2) (at + 3 + len) (n + 1)) (λ r. closed at (at + 3 + len) (op r.term) r.next r.count))
  unfolding LawOf
  one_law op tag len f z c st hp =
      and_holds G _ _ (λ e p q. no_law e p) (λ r e.
      closed_law G at (at + 3 + len) (op r.term) r.next r.count (no_law LengthWrong at) (done r (inner (at + 3 + 2) (at + 3 + len) (n + 1) (omega (arith, f)) r e)))
    where
      done : (r : ParsedTerm) → Law s high (at + 3 + 2) (at + 3 + len) (n + 1) r → r.next ≡ at + 3 + len → G (gives (parsed_term (op r.term) r.next r.count))
      done r l q =
          let t = r.term in
          record {
            stands = st t (head tag len (2 + size t) f (omega (arith, l))) (subst (λ (k : ℕ). Stands s k t) (omega arith) l.stands);
            next_is = omega (arith, l, z t);
            within = omega (arith, f, q);
            count_is = omega (arith, l, c t);
            room = l.room;
            plain = λ h. hp t h (l.plain h);
          }

  -- a field with two inner terms
  two_law : (op : Term → Term → Term) (tag len : ℕ) → F tag len → ((t u : Term) → size (op t u) ≡ 3 + size t + size u) → ((t u : Term) → fields (op t u) ≡ 1 + fields t + fields u)
      → ((t u : Term) → Head s at tag (size t + size u) → Stands s (at + 3) t → Stands s (at + 3 + size t) u → Stands s at (op t u)) → ((t u : Term) → high < tactic_kind → Hiproof t → Hiproof u → Hiproof (op t u))
      → G (and_then (rec (at + 3 + 0) (at + 3 + len) (n + 1)) (λ a. and_then (rec a.next (at + 3 + len) a.count) (λ b. closed at (at + 3 + len) (op a.term b.term) b.next b.count)))
  unfolding LawOf
  two_law op tag len f z c st hp =
      and_holds G _ _ (λ e p q. no_law e p) (λ a e. and_holds G _ _ (λ e' p q. no_law e' p) (λ b e₂.
      closed_law G at (at + 3 + len) (op a.term b.term) b.next b.count (no_law LengthWrong at)
      (done a b (inner (at + 3 + 0) (at + 3 + len) (n + 1) (omega (arith, f)) a e) (inner a.next (at + 3 + len) a.count (omega (arith, f)) b e₂))))
    where
      done : (a b : ParsedTerm) → Law s high (at + 3 + 0) (at + 3 + len) (n + 1) a → Law s high a.next (at + 3 + len) a.count b → b.next ≡ at + 3 + len → G (gives (parsed_term (op a.term b.term) b.next b.count))
      done a b l r q =
          let t = a.term in
          let u = b.term in
          record {
            stands = st t u (head tag len (size t + size u) f (omega (arith, l, r))) (subst (λ (k : ℕ). Stands s k t) (omega arith) l.stands) (subst (λ (k : ℕ). Stands s k u) (omega (arith, l)) r.stands);
            next_is = omega (arith, l, r, z t u);
            within = omega (arith, f, q);
            count_is = omega (arith, l, r, c t u);
            room = r.room;
            plain = λ h. hp t u h (l.plain h) (r.plain h);
          }

  field_law : {tag : ℕ} (len : ℕ) → TermTag tag → F tag len → G (contents rec s at tag (at + 3 + len) (n + 1) (inner_of tag))
  unfolding contents inner_of row_of find_row rows least_of most_of kind_of leaf pair size fields Stands Hiproof
  field_law len t16 f = leaf_law _ 16 len f (omega (arith, f)) refl (λ h. (subst (Head s at 16) (omega (arith, f)) h, refl)) (λ _. tt)
  field_law len t17 f = leaf_law _ 17 len f (omega (arith, f)) refl (λ h. subst (Head s at 17) (omega (arith, f)) h) (λ _. tt)
  field_law len t18 f = one_law _ 18 len f (λ t. refl) (λ t. refl) (λ t h i. (h, refl, i)) (λ t _ i. i)
  field_law len t19 f = two_law _ 19 len f (λ t u. refl) (λ t u. refl) (λ t u h i j. (h, i, j)) (λ t u _ i j. (i, j))
  field_law len t20 f = two_law _ 20 len f (λ t u. refl) (λ t u. refl) (λ t u h i j. (h, i, j)) (λ t u _ i j. (i, j))
  field_law len t21 f = leaf_law _ 21 len f (omega (arith, f)) refl (λ h. subst (Head s at 21) (omega (arith, f)) h) (λ _. tt)
  field_law len t22 f = two_law _ 22 len f (λ t u. refl) (λ t u. refl) (λ t u h i j. (h, i, j)) (λ t u h i j. omega (arith, f))
  field_law len t23 f = leaf_law _ 23 len f (omega (arith, f)) refl (λ h. (subst (Head s at 23) (omega (arith, f)) h, refl)) (λ h. omega (arith, f))
  field_law len t24 f = leaf_law _ 24 len f (omega (arith, f)) refl (λ h. (subst (Head s at 24) (omega (arith, f)) h, refl)) (λ h. omega (arith, f))

  header_law : high ≤ tactic_kind → (h : Header) → header_at s at end hiproof_kind high (leb most_term_fields n) ≡ gives h → G (term_of rec s at n h)
  unfolding term_of
  header_law top h e = let f = is_field s at end hiproof_kind high (leb most_term_fields n) h.tag h.len e in field_law h.len (term_tag h.tag f.above (omega (arith, f))) f

-- whatever the depth
pub read_law : (d : ℕ) (s : List ℕ) (high : ℕ) → high ≤ tactic_kind → (at end n : ℕ) → end ≤ length s → LawOf s high at end n (read_term d s high at end n)
unfolding read_term LawOf
read_law zero s high top at end n fit = tt
read_law (suc d) s high top at end n fit =
    and_holds (LawOf s high at end n) _ _ (λ c p e. no_law s high (read_term d s high) (read_law d s high top) at end n fit c p)
    (header_law s high (read_term d s high) (read_law d s high top) at end n fit top)

-- what a term that was read says
pub read_gives : (d : ℕ) (s : List ℕ) (high : ℕ) → high ≤ tactic_kind → (at end n : ℕ) → end ≤ length s → (r : ParsedTerm) → read_term d s high at end n ≡ gives r → Law s high at end n r
unfolding LawOf
read_gives d s high top at end n fit r e = subst (LawOf s high at end n) e (read_law d s high top at end n fit)
