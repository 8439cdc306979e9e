-- Any two depths above a term's bytes read the same: each inner term begins behind its field's header.
-- Assumes nothing.
use mathlib.Core.Path.{◌≡◌, refl}
use mathlib.Core.List.{List}
use Prim.Native.Nat.{ℕ, zero, suc, ◌+◌, ◌-◌, ◌≤◌, ◌<◌}
use native.Mathlib.Omega.{arith}
use lib.Dec.{leb}
use Rattle.format.specs.Limits.{most_term_fields}
use Rattle.format.specs.Results.{gives}
use Rattle.format.specs.Tags.{least_of, inner_of, hiproof_kind}
use Rattle.format.specs.Headers.{Header, header_at}
use Rattle.format.specs.ReadTerms.{contents, term_of, read_term}
use Rattle.format.proofs.ResultLaws.{and_same}
use Rattle.format.proofs.HeaderLaws.{is_field}
use Rattle.reading.proofs.TermLaws.{ahead}

module _ (s : List ℕ) (high : ℕ) where
  inside : (f g at end n tag k : ℕ) → ((from m : ℕ) → at < from → read_term f s high from end m ≡ read_term g s high from end m)
      → contents (read_term f s high) s at tag end n k ≡ contents (read_term g s high) s at tag end n k
  unfolding contents
  inside f g at end n tag zero ih = refl
  inside f g at end n tag (suc zero) ih = and_same _ _ _ _ (ih (at + 3 + least_of tag) n (omega arith)) (λ t e. refl)
  inside f g at end n tag (suc (suc k)) ih =
      and_same _ _ _ _ (ih (at + 3 + least_of tag) n (omega arith)) (λ t e.
      and_same _ _ _ _ (ih t.next t.count (omega (arith, ahead s high f (at + 3 + least_of tag) end n t e))) (λ u q. refl))

  after : (f g at end n : ℕ) → ((close from m : ℕ) → close ≤ end → at < from → at < end → read_term f s high from close m ≡ read_term g s high from close m)
      → (h : Header) → header_at s at end hiproof_kind high (leb most_term_fields n) ≡ gives h → term_of (read_term f s high) s at n h ≡ term_of (read_term g s high) s at n h
  unfolding term_of
  after f g at end n ih h e =
      let x = is_field s at end hiproof_kind high (leb most_term_fields n) h.tag h.len e in
      inside f g at (at + 3 + h.len) (n + 1) h.tag (inner_of h.tag) (λ from m l. ih (at + 3 + h.len) from m x.contents l (omega (arith, x)))

  pub same_depth : (f g at end n : ℕ) → end - at < f → end - at < g → read_term f s high at end n ≡ read_term g s high at end n
  unfolding read_term
  same_depth zero g at end n a b = absurd (omega arith)
  same_depth (suc f) zero at end n a b = absurd (omega arith)
  same_depth (suc f) (suc g) at end n a b =
      and_same _ _ _ _ refl (after f g at end n (λ close from m l h k. same_depth f g from close m (omega arith) (omega arith)))
