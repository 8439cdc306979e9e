-- Document 02, P3: "the count becomes one loop over the term's bytes". `Counted` says what the loop goes by: the headers of term fields, one behind the other.
use Rattle.std.specs.Prelude.{ℕ, ◌+◌, ◌≤◌, ◌≡◌, ◌↔◌, List, length}
use Rattle.format.specs.Results.{gives}
use Rattle.format.specs.Tags.{tactic_kind}
use Rattle.format.specs.Terms.{size, fields}
use Rattle.format.specs.Count.{Counted}
use Rattle.format.specs.Standing.{Stands}
use Rattle.format.specs.ReadTerms.{ParsedTerm, read_term}
use Rattle.files.specs.Proofs.{term_place, remaining_place, or_empty_proof}
use Rattle.entries.specs.Check.{check_work, check}
use Rattle.promises.specs.Accepted.{Accepted}

-- of a term that was read at a place, where so many term fields were counted before
pub record FieldsCounted (s : List ℕ) (at before : ℕ) (x : ParsedTerm) : Type 0 where
  -- what the count asks for: the term stands there, and ends where reading went on
  pub stands : Stands s at x.term
  pub ends : x.next ≡ at + size x.term
  -- there are as many headers as term fields, and no other number
  pub headers : (n : ℕ) → Counted s at x.next n ↔ (n ≡ fields x.term)
  -- the reader's own count, by which it refuses with 5, goes up by the same number
  pub read_count : (n : ℕ) → Counted s at x.next n ↔ (before + n ≡ x.count)

-- "For every term the reader takes it is exactly the number of term fields in it": in any file, and within any other term, since an inner term is read by the same `read_term`
abbrev pub Count-reads : Type 0
Count-reads = (depth : ℕ) (s : List ℕ) (high at end before : ℕ) (x : ParsedTerm) → high ≤ tactic_kind → end ≤ length s → read_term depth s high at end before ≡ gives x → FieldsCounted s at before x

-- of an accepted proof check answers with the number of headers from its hiproof to the list of those remaining, in the bytes that are read of it
abbrev pub Check-fields : Type 0
Check-fields = (t p w : List ℕ) → check_work ≤ length w → (a : Accepted t p) → (n : ℕ) → Counted (or_empty_proof p) (term_place a.the_proof) (remaining_place a.the_proof) n ↔ (n ≡ (check t p w).answer.fields)
