-- A term as the code tells it, by its field and what its inner terms come to.
-- Assumes nothing.
use mathlib.Core.Path.{◌≡◌, refl, ap, ◌∙◌}
use mathlib.Core.List.{List}
use Prim.Native.Nat.{ℕ, zero, suc, ◌+◌, ◌-◌, ◌≤◌, ◌<◌}
use native.Mathlib.Omega.{arith}
use lib.Dec.{leb}
use lib.ListN.{length}
use Rattle.format.specs.declared.refusals.Cause.{Cause}
use Rattle.format.specs.TermRead.{TermRead}
use Rattle.format.specs.TermRead.{Refused, Read}
use Rattle.format.specs.Limits.{most_term_fields}
use Rattle.format.specs.Results.{gives, and_then, refused_at}
use Rattle.format.specs.Tags.{least_of, inner_of, hiproof_kind}
use Rattle.format.specs.Headers.{header, header_at}
use Rattle.format.specs.ReadTerms.{contents, term_of, read_term}
use Rattle.format.specs.Shapes.{header_shape, term_shape, ending, Within}
use Rattle.format.proofs.HeaderLaws.{is_field}
use Rattle.reading.specs.Waiting.{go_on, reads, closing}
use Rattle.reading.proofs.TermLaws.{header_refused, header_read, shape, contents_shape, contents-leaf, within}
use Rattle.reading.proofs.Depth.{same_depth}

-- two readers that agree behind a place
same_closing : (f g : ℕ → ℕ → ℕ → TermRead) (at from end k : ℕ) (r : TermRead) → Within from end r → ((a m : ℕ) → from ≤ a → f a end m ≡ g a end m) → closing f at end k r ≡ closing g at end k r
unfolding closing go_on Within
same_closing f g at from end zero r w h = refl
same_closing f g at from end (suc k) (Refused a b) w h = refl
same_closing f g at from end (suc k) (Read to m) w h = ap (λ (r : TermRead). go_on r (ending at end)) (h to m (omega (arith, w)))

module _ (s : List ℕ) (high : ℕ) where
  -- any two depths above a term's bytes tell the same
  same_told : (f g at end n : ℕ) → end - at < f → end - at < g → shape s high f at end n ≡ shape s high g at end n
  same_told f g at end n a b = ap term_shape (same_depth s high f g at end n a b)

  unfold_once : (d at end n : ℕ) → shape s high (suc d) at end n ≡ term_shape (and_then (header_at s at end hiproof_kind high (leb most_term_fields n)) (term_of (read_term d s high) s at n))
  unfolding read_term
  unfold_once d at end n = refl

  -- a term by its field: refused, without inner terms, with inner terms
  pub reads_refused : (at end n : ℕ) (k : Cause) (p : ℕ) → header_shape (header_at s at end hiproof_kind high (leb most_term_fields n)) ≡ refused_at k p → reads s high at end n ≡ Refused k p
  unfolding reads read_term
  reads_refused at end n k p e = header_refused _ _ k p e

  pub reads-leaf : (at end n tag len : ℕ) → header_at s at end hiproof_kind high (leb most_term_fields n) ≡ gives (header tag len) → inner_of tag ≡ 0 → reads s high at end n ≡ Read (at + 3 + len) (n + 1)
  unfolding reads read_term
  reads-leaf at end n tag len e z = header_read _ s at n _ tag len (at + 3 + len) e refl ∙ rw z (contents-leaf s high (length s) at tag (at + 3 + len) (n + 1))

  pub reads_inner : (at end n tag len k : ℕ) → header_at s at end hiproof_kind high (leb most_term_fields n) ≡ gives (header tag len) → inner_of tag ≡ suc k → end ≤ length s
      → reads s high at end n ≡ closing (reads s high) at (at + 3 + len) k (reads s high (at + 3 + least_of tag) (at + 3 + len) (n + 1))
  unfolding reads
  reads_inner at end n tag len k e z fit =
      let x = is_field s at end hiproof_kind high (leb most_term_fields n) tag len e in
      unfold_once (length s) at end n
      ∙ header_read _ s at n _ tag len (at + 3 + len) e refl
      ∙ ap (λ (i : ℕ). term_shape (contents (read_term (length s) s high) s at tag (at + 3 + len) (n + 1) i)) z
      ∙ contents_shape s high (length s) at tag (at + 3 + len) (n + 1) k
      ∙ same_closing (shape s high (length s)) (shape s high (suc (length s))) at (at + 3 + least_of tag) (at + 3 + len) k _ (within s high (length s) _ _ _) (λ a m l. same_told (length s) (suc (length s)) a (at + 3 + len) m (omega (arith, x)) (omega (arith, x)))
      ∙ ap (λ (r : TermRead). closing (shape s high (suc (length s))) at (at + 3 + len) k r) (same_told (length s) (suc (length s)) (at + 3 + least_of tag) (at + 3 + len) (n + 1) (omega (arith, x)) (omega (arith, x)))

  -- the whole, at any depth that is enough
  pub reads_any : (f at end n : ℕ) → end ≤ length s → end - at < f → reads s high at end n ≡ shape s high f at end n
  unfolding reads
  reads_any f at end n fit l = same_told (suc (length s)) f at end n (omega arith) l
