-- Document 01, "What the bytes bring about": reading one term, "field by field in byte order", "leftovers (4, at the enclosing field) after the inner terms".
use Rattle.std.specs.Prelude.{ℕ, zero, suc, ◌+◌, cond, List, eqb, leb}
use Rattle.words.specs.Word.{word}
use Rattle.format.specs.Limits.{most_term_fields}
use Rattle.format.specs.Refusals.{FieldTorn, LengthWrong}
use Rattle.format.specs.Results.{Result, gives, refused, and_then}
use Rattle.format.specs.Values.{rule_name, goal, label_of, tactic_no}
use Rattle.format.specs.Tags.{least_of, inner_of, hiproof_kind}
use Rattle.format.specs.Headers.{Header, header_at}
use Rattle.format.specs.Terms.{Term, atomic, id, label, sequence, tensor, empty, alternation, assert, defined}

-- a term, the offset behind it, and the term fields begun so far in the file
pub record ParsedTerm : Type 0 where
  pub term : Term
  pub next : ℕ
  pub count : ℕ

abbrev pub parsed_term : Term → (next count : ℕ) → ParsedTerm
parsed_term t next n = record { term = t; next = next; count = n }

-- a term without inner terms, by its tag and value
unfoldable pub leaf : (tag value : ℕ) → Term
leaf tag v =
    cond (eqb tag 16) (atomic (rule_name v))
    (cond (eqb tag 17) id
    (cond (eqb tag 21) empty
    (cond (eqb tag 23) (assert (goal v))
    (defined (tactic_no v)))))

-- a term with two inner terms, by its tag
unfoldable pub pair : (tag : ℕ) → Term → Term → Term
pair tag t u = cond (eqb tag 19) (sequence t u) (cond (eqb tag 20) (tensor t u) (alternation t u))

-- behind the last inner term nothing is left in the field at this place
unfoldable pub closed : (at end : ℕ) → Term → (next count : ℕ) → Result ParsedTerm
closed at end t next n = cond (eqb next end) (gives (parsed_term t next n)) (refused LengthWrong at)

-- the contents of the field at a place, up to end, by the number of its inner terms; these are read by rec, from the first behind the values on
unfoldable pub contents : (rec : ℕ → ℕ → ℕ → Result ParsedTerm) → List ℕ → (at tag end count inner : ℕ) → Result ParsedTerm
contents rec s at tag end n zero = gives (parsed_term (leaf tag (word s (at + 3))) end n)
contents rec s at tag end n (suc zero) =
    and_then (rec (at + 3 + least_of tag) end n) (λ t.
    closed at end (label (label_of (word s (at + 3))) t.term) t.next t.count)
contents rec s at tag end n (suc (suc k)) =
    and_then (rec (at + 3 + least_of tag) end n) (λ t.
    and_then (rec t.next end t.count) (λ u.
    closed at end (pair tag t.term u.term) u.next u.count))

-- the term at a place, once its header is read; it counts itself before its inner terms
unfoldable pub term_of : (rec : ℕ → ℕ → ℕ → Result ParsedTerm) → List ℕ → (at count : ℕ) → Header → Result ParsedTerm
term_of rec s at n h = contents rec s at h.tag (at + 3 + h.len) (n + 1) (inner_of h.tag)

-- The term at a place, within what ends at `end`, where count term fields were begun before it; kinds up to high may stand in it.
-- The first argument bounds how deep terms stand in one another: any above end - at does (`Depth.same_depth`).
unfoldable pub read_term : (depth : ℕ) → List ℕ → (high at end count : ℕ) → Result ParsedTerm
read_term zero s high at end n = refused FieldTorn at
read_term (suc d) s high at end n = and_then (header_at s at end hiproof_kind high (leb most_term_fields n)) (term_of (read_term d s high) s at n)
