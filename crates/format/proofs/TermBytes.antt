-- READING A TERM: what is read from bytes is a term of 16-bit values and those bytes are its encoding; and a term within the limits is read from its encoding.
-- Assumes nothing.
use mathlib.Core.Path.{◌≡◌, sym, ap, ◌∙◌}
use mathlib.Core.List.{List, ◌++◌}
use Prim.Native.Nat.{ℕ, ◌+◌, ◌≤◌, ◌<◌}
use native.Mathlib.Omega.{arith}
use lib.ListN.{length, drop}
use Rattle.format.specs.Limits.{most_term_fields}
use Rattle.format.specs.Results.{gives}
use Rattle.format.specs.Tags.{hiproof_kind, tactic_kind}
use Rattle.format.specs.Terms.{Term, atomic, id, label, sequence, tensor, empty, alternation, assert, defined, size, fields, Hiproof}
use Rattle.format.specs.ReadTerms.{ParsedTerm, parsed_term, read_term}
use Rattle.format.specs.Encoding.{Bytes, term_bytes, TermValues}
use Rattle.format.specs.Standing.{Stands}
use Rattle.format.proofs.GoalBytes.{word_value}
use Rattle.format.proofs.Encoded.{term_bytes_lem}
use Rattle.format.proofs.Decoded.{Small, read_encoded}
use Rattle.format.proofs.ReadLaw.{read_gives}

-- the values of a term that stands in a file of bytes
pub values_stand : (s : List ℕ) → Bytes s → (t : Term) (at : ℕ) → Stands s at t → TermValues t
unfolding TermValues Stands
values_stand s bytes (atomic a) at st = omega (arith, word_value s bytes (at + 3), st.1)
values_stand s bytes id at st = tt
values_stand s bytes (label l t) at st = (omega (arith, word_value s bytes (at + 3), st.1), values_stand s bytes t (at + 5) st.2)
values_stand s bytes (sequence t u) at st = (values_stand s bytes t (at + 3) st.1, values_stand s bytes u (at + 3 + size t) st.2)
values_stand s bytes (tensor t u) at st = (values_stand s bytes t (at + 3) st.1, values_stand s bytes u (at + 3 + size t) st.2)
values_stand s bytes empty at st = tt
values_stand s bytes (alternation t u) at st = (values_stand s bytes t (at + 3) st.1, values_stand s bytes u (at + 3 + size t) st.2)
values_stand s bytes (assert γ) at st = omega (arith, word_value s bytes (at + 3), st.1)
values_stand s bytes (defined n) at st = omega (arith, word_value s bytes (at + 3), st.1)

-- in a term of 65,535 bytes at the most every length is of 16 bits
pub small : (t : Term) → TermValues t → size t < 65536 → Small t
unfolding TermValues Small size
small (atomic a) v h = v
small id v h = tt
small (label l t) v h = (v.0, omega arith, small t v.1 (omega arith))
small (sequence t u) v h = (omega arith, small t v.0 (omega arith), small u v.1 (omega arith))
small (tensor t u) v h = (omega arith, small t v.0 (omega arith), small u v.1 (omega arith))
small empty v h = tt
small (alternation t u) v h = (omega arith, small t v.0 (omega arith), small u v.1 (omega arith))
small (assert γ) v h = v
small (defined n) v h = v

-- what was read from bytes
pub record ReadBytes (s : List ℕ) (high at n : ℕ) (r : ParsedTerm) : Type 0 where
  pub bytes_are : drop at s ≡ term_bytes r.term ++ drop r.next s
  pub values : TermValues r.term
  pub next_is : r.next ≡ at + size r.term
  pub count_is : r.count ≡ n + fields r.term
  pub room : r.count ≤ most_term_fields
  pub plain : high < tactic_kind → Hiproof r.term

pub read_bytes : (d : ℕ) (s : List ℕ) → Bytes s → (high : ℕ) → high ≤ tactic_kind → (at end n : ℕ) → end ≤ length s → (r : ParsedTerm) → read_term d s high at end n ≡ gives r → ReadBytes s high at n r
read_bytes d s bytes high top at end n fit r e =
    let l = read_gives d s high top at end n fit r e in
    record {
      bytes_are = term_bytes_lem s bytes r.term at l.stands ∙ ap (λ (j : ℕ). term_bytes r.term ++ drop j s) (sym l.next_is);
      values = values_stand s bytes r.term at l.stands;
      next_is = l.next_is;
      count_is = l.count_is;
      room = l.room;
      plain = l.plain;
    }

-- what is read from its bytes
pub bytes_read : (s : List ℕ) → Bytes s → (high : ℕ) → hiproof_kind ≤ high → (t : Term) (d at end n : ℕ) (r : List ℕ) → TermValues t → size t < 65536 → drop at s ≡ term_bytes t ++ r
    → (high < tactic_kind → Hiproof t) → at + size t ≤ end → n + fields t ≤ most_term_fields → size t ≤ d → read_term d s high at end n ≡ gives (parsed_term t (at + size t) (n + fields t))
bytes_read s bytes high low t d at end n r v h e = read_encoded s bytes high low t d at end n r (small t v h) e
