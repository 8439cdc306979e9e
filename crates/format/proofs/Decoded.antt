-- Where a term's encoding lies the term stands, and so is read: by induction over the term.
-- Assumes nothing.
use mathlib.Core.Path.{◌≡◌, refl, sym, subst, ap, ◌∙◌}
use mathlib.Core.List.{List, [], ◌++◌, append_assoc}
use Prim.Native.Nat.{ℕ, ◌+◌, ◌≤◌, ◌<◌}
use native.Mathlib.Omega.{arith}
use lib.ListN.{length, drop, length-append}
use lib.Seq.{drop-drop, drop_at}
use Rattle.format.specs.Limits.{most_term_fields}
use Rattle.format.specs.Results.{gives}
use Rattle.format.specs.Tags.{hiproof_kind, tactic_kind}
use Rattle.format.specs.Terms.{Term, atomic, id, label, sequence, tensor, empty, alternation, assert, defined, size, fields, Hiproof}
use Rattle.format.specs.ReadTerms.{parsed_term, read_term}
use Rattle.format.specs.Encoding.{Bytes, word_bytes, term_bytes}
use Rattle.format.specs.Standing.{Stands}
use Rattle.format.proofs.FieldBytes.{value_lies, field_lies}
use Rattle.format.proofs.Encoded.{length-term_bytes}
use Rattle.format.proofs.Complete.{complete}

-- every value and every length of contents is of 16 bits
unfoldable pub Small : Term → Type 0
Small (atomic a) = a.0 < 65536
Small id = Unit {0}
Small (label l t) = (l.0 < 65536) × (2 + size t < 65536) × Small t
Small (sequence a b) = (size a + size b < 65536) × Small a × Small b
Small (tensor a b) = (size a + size b < 65536) × Small a × Small b
Small empty = Unit {0}
Small (alternation a b) = (size a + size b < 65536) × Small a × Small b
Small (assert g) = g.0 < 65536
Small (defined d) = d.0 < 65536

module _ (s : List ℕ) where
  both : (a b : Term) → length (term_bytes a ++ term_bytes b) ≡ size a + size b
  both a b = omega (arith, length-append (term_bytes a) (term_bytes b), length-term_bytes a, length-term_bytes b)

  -- the part behind a term's encoding
  behind : (k : ℕ) (t : Term) (r : List ℕ) → drop k s ≡ term_bytes t ++ r → drop (k + size t) s ≡ r
  behind k t r e = sym (drop-drop (size t) k s) ∙ ap (λ (l : List ℕ). drop (size t) l) e ∙ drop_at (term_bytes t) r (size t) (length-term_bytes t)

  pub term_stands : (t : Term) (at : ℕ) (r : List ℕ) → Small t → drop at s ≡ term_bytes t ++ r → Stands s at t
  unfolding Small Stands term_bytes size
  term_stands (atomic a) at r h e = let x = field_lies s at 16 2 (word_bytes a.0) r refl (omega arith) e in (x.0, (value_lies s (at + 3) a.0 r h x.1).0)
  term_stands id at r h e = (field_lies s at 17 0 [] r refl (omega arith) e).0
  term_stands (label l t) at r h e =
      let x = field_lies s at 18 (2 + size t) (word_bytes l.0 ++ term_bytes t) r (omega (arith, length-term_bytes t)) h.1 e in
      let y = value_lies s (at + 3) l.0 (term_bytes t ++ r) h.0 x.1 in
      let c : at + 3 + 2 ≡ at + 5 = omega arith in
      (x.0, y.0, term_stands t (at + 5) r h.2 (subst (λ (j : ℕ). drop j s ≡ term_bytes t ++ r) c y.1))
  term_stands (sequence a b) at r h e =
      let x = field_lies s at 19 (size a + size b) (term_bytes a ++ term_bytes b) r (both a b) h.0 e in
      let y = x.1 ∙ append_assoc (term_bytes a) (term_bytes b) r in
      (x.0, term_stands a (at + 3) (term_bytes b ++ r) h.1 y, term_stands b (at + 3 + size a) r h.2 (behind (at + 3) a (term_bytes b ++ r) y))
  term_stands (tensor a b) at r h e =
      let x = field_lies s at 20 (size a + size b) (term_bytes a ++ term_bytes b) r (both a b) h.0 e in
      let y = x.1 ∙ append_assoc (term_bytes a) (term_bytes b) r in
      (x.0, term_stands a (at + 3) (term_bytes b ++ r) h.1 y, term_stands b (at + 3 + size a) r h.2 (behind (at + 3) a (term_bytes b ++ r) y))
  term_stands empty at r h e = (field_lies s at 21 0 [] r refl (omega arith) e).0
  term_stands (alternation a b) at r h e =
      let x = field_lies s at 22 (size a + size b) (term_bytes a ++ term_bytes b) r (both a b) h.0 e in
      let y = x.1 ∙ append_assoc (term_bytes a) (term_bytes b) r in
      (x.0, term_stands a (at + 3) (term_bytes b ++ r) h.1 y, term_stands b (at + 3 + size a) r h.2 (behind (at + 3) a (term_bytes b ++ r) y))
  term_stands (assert g) at r h e = let x = field_lies s at 23 2 (word_bytes g.0) r refl (omega arith) e in (x.0, (value_lies s (at + 3) g.0 r h x.1).0)
  term_stands (defined d) at r h e = let x = field_lies s at 24 2 (word_bytes d.0) r refl (omega arith) e in (x.0, (value_lies s (at + 3) d.0 r h x.1).0)

-- Reading undoes encoding: within the limits, where a term's encoding lies in a file of bytes, that term is read
pub read_encoded : (s : List ℕ) → Bytes s → (high : ℕ) → hiproof_kind ≤ high → (t : Term) (d at end n : ℕ) (r : List ℕ) → Small t → drop at s ≡ term_bytes t ++ r
    → (high < tactic_kind → Hiproof t) → at + size t ≤ end → n + fields t ≤ most_term_fields → size t ≤ d → read_term d s high at end n ≡ gives (parsed_term t (at + size t) (n + fields t))
read_encoded s bytes high low t d at end n r small e = complete s bytes high low t d at end n (term_stands s t at r small e)
