-- Reading a term as the code tells it: the steps one by one, and that a term which was read lies within what encloses it.
-- Assumes nothing.
use mathlib.Core.Path.{◌≡◌, refl, subst}
use mathlib.Core.Bool.{Bool, true, false, cond}
use mathlib.Core.List.{List}
use Prim.Native.Nat.{ℕ, zero, suc, ◌+◌, ◌≤◌, ◌<◌}
use native.Mathlib.Omega.{arith}
use lib.Dec.{eqb, leb}
use Rattle.std.specs.Prelude.{Ok}
use Rattle.format.specs.TermRead.{TermRead}
use Rattle.format.specs.TermRead.{Refused, Read}
use Rattle.format.specs.Limits.{most_term_fields}
use Rattle.format.specs.declared.refusals.Cause.{Cause}
use Rattle.format.specs.declared.refusals.Cause.TheVariants.{LengthWrong}
use Rattle.format.specs.Results.{Result, gives, refused, and_then, told, refused_at}
use Rattle.format.specs.Tags.{least_of, inner_of, hiproof_kind}
use Rattle.format.specs.Headers.{Header, header}
use Rattle.format.specs.Terms.{Term}
use Rattle.format.specs.ReadTerms.{ParsedTerm, parsed_term, closed, contents, term_of, read_term}
use Rattle.format.specs.Shapes.{header_shape, term_shape, ending, Within}
use Rattle.format.proofs.ResultLaws.{refused_cause, refused_place, told_refused, and_holds}
use Rattle.format.proofs.HeaderLaws.{IsField, is_field}
use Rattle.reading.specs.Waiting.{go_on, closing}

-- a header that was refused
pub header_refused : (x : Result Header) (next : Header → Result ParsedTerm) (k : Cause) (p : ℕ) → header_shape x ≡ refused_at k p → term_shape (and_then x next) ≡ Refused k p
unfolding header_shape term_shape
header_refused x next k p e =
    told_refused refused_at (λ h. Ok (record { tag = h.tag; len = h.len })) Refused (λ t. Read t.next t.count) x next k p e
    (λ c q f. let a : c ≡ k = refused_cause f in let b : q ≡ p = refused_place f in rw (a, b)) (λ a f. let z : ◌≡◌ {A = ℕ} 0 1 = cc in omega arith)

-- a header that was read, of a field that ends at `close`
pub header_read : (rec : ℕ → ℕ → ℕ → Result ParsedTerm) (s : List ℕ) (at n : ℕ) (x : Result Header) (tag len close : ℕ) → x ≡ gives (header tag len) → close ≡ at + 3 + len
    → term_shape (and_then x (term_of rec s at n)) ≡ term_shape (contents rec s at tag close (n + 1) (inner_of tag))
unfolding and_then term_of
header_read rec s at n x tag len close e c = rw (e, c)

-- what is told of two steps
go_shape : (x : Result ParsedTerm) (next : ParsedTerm → Result ParsedTerm) (g : ℕ → ℕ → TermRead) → ((t : ParsedTerm) → term_shape (next t) ≡ g t.next t.count) → term_shape (and_then x next) ≡ go_on (term_shape x) g
unfolding term_shape told and_then go_on
go_shape (gives t) next g h = h t
go_shape (refused c p) next g h = refl

closed-ending : (at end : ℕ) (t : Term) (next n : ℕ) → term_shape (closed at end t next n) ≡ ending at end next n
unfolding term_shape told closed ending
closed-ending at end t next n = go (eqb next end)
  where
    go : (b : Bool) → told Refused (λ u. Read u.next u.count) (cond b (gives (parsed_term t next n)) (refused LengthWrong at)) ≡ cond b (Read next n) (Refused LengthWrong at)
    go true = refl
    go false = refl

within-ending : (at end close next n : ℕ) → at + 3 ≤ next → next ≤ end → Within at end (ending at close next n)
unfolding Within ending
within-ending at end close next n l h = go (eqb next close)
  where
    go : (b : Bool) → Within at end (cond b (Read next n) (Refused LengthWrong at))
    go true = (l, h)
    go false = tt

pub within_read : (at end : ℕ) {next n : ℕ} {r : TermRead} → r ≡ Read next n → Within at end r → (at + 3 ≤ next) × (next ≤ end)
unfolding Within
within_read at end e w = subst (Within at end) e w

module _ (s : List ℕ) (high : ℕ) where
  abbrev pub shape : (d at end n : ℕ) → TermRead
  shape d at end n = term_shape (read_term d s high at end n)

  -- contents with inner terms
  pub contents_shape : (d at tag end n k : ℕ) → term_shape (contents (read_term d s high) s at tag end n (suc k)) ≡ closing (shape d) at end k (shape d (at + 3 + least_of tag) end n)
  unfolding contents closing
  contents_shape d at tag end n zero = go_shape _ _ _ (λ t. closed-ending at end _ t.next t.count)
  contents_shape d at tag end n (suc k) = go_shape _ _ _ (λ t. go_shape _ _ _ (λ u. closed-ending at end _ u.next u.count))

  -- and without
  pub contents-leaf : (d at tag end n : ℕ) → term_shape (contents (read_term d s high) s at tag end n zero) ≡ Read end n
  unfolding contents term_shape told
  contents-leaf d at tag end n = refl

  -- a term that was read lies within what encloses it
  ends_within : (at from end : ℕ) (r : TermRead) → at + 3 ≤ from → Within from end r → Within at end (go_on r (ending at end))
  unfolding Within go_on
  ends_within at from end (Refused k p) l w = tt
  ends_within at from end (Read to m) l w = within-ending at end end to m (omega (arith, w)) w.1

  closing-within : (rec : ℕ → ℕ → ℕ → TermRead) → ((a e m : ℕ) → Within a e (rec a e m)) → (at from end k : ℕ) (r : TermRead) → at + 3 ≤ from → Within from end r → Within at end (closing rec at end k r)
  unfolding Within closing go_on
  closing-within rec ih at from end zero r l w = ends_within at from end r l w
  closing-within rec ih at from end (suc k) (Refused a b) l w = tt
  closing-within rec ih at from end (suc k) (Read to m) l w = ends_within at to end (rec to end m) (omega (arith, w)) (ih to end m)

  wider : (at close end : ℕ) (r : TermRead) → close ≤ end → Within at close r → Within at end r
  unfolding Within
  wider at close end (Refused k p) l w = tt
  wider at close end (Read to m) l w = (w.0, omega (arith, w))

  contents-within : (d at tag end n k : ℕ) → ((a e m : ℕ) → Within a e (shape d a e m)) → at + 3 ≤ end → Within at end (term_shape (contents (read_term d s high) s at tag end n k))
  unfolding Within
  contents-within d at tag end n zero ih l = rw (contents-leaf d at tag end n) (l, omega arith)
  contents-within d at tag end n (suc k) ih l = rw (contents_shape d at tag end n k) (closing-within (shape d) ih at (at + 3 + least_of tag) end k _ (omega arith) (ih _ _ _))

  after : (d at end n : ℕ) (h : Header) → ((a e m : ℕ) → Within a e (shape d a e m)) → IsField s at end hiproof_kind high (leb most_term_fields n) h.tag h.len → Within at end (term_shape (term_of (read_term d s high) s at n h))
  unfolding term_of
  after d at end n h ih f = wider at (at + 3 + h.len) end _ f.contents (contents-within d at h.tag (at + 3 + h.len) (n + 1) (inner_of h.tag) ih (omega arith))

  pub within : (d at end n : ℕ) → Within at end (shape d at end n)
  unfolding read_term term_shape told Within
  within zero at end n = tt
  within (suc d) at end n =
      and_holds (λ (x : Result ParsedTerm). Within at end (term_shape x)) _ _ (λ c p e. tt)
      (λ h e. after d at end n h (within d) (is_field s at end hiproof_kind high (leb most_term_fields n) h.tag h.len e))

  -- the offset behind a term that was read lies ahead
  pub ahead : (d at end n : ℕ) (t : ParsedTerm) → read_term d s high at end n ≡ gives t → at < t.next
  unfolding Within term_shape told
  ahead d at end n t e = let w = subst (λ (x : Result ParsedTerm). Within at end (term_shape x)) e (within d at end n) in omega (arith, w)
