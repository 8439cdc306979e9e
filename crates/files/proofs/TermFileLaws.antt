-- Reading a term file, by what the code tells of its term: one law for each way in which its reading ends.
-- Assumes nothing.
use Rattle.std.specs.Prelude.{Ok}
use Rattle.std.specs.Prelude as std
use mathlib.Core.Path.{◌≡◌, ap, ◌∙◌}
use mathlib.Core.List.{List}
use Prim.Native.Nat.{ℕ, ◌+◌, ◌≤◌, ◌<◌}
use lib.ListN.{length}
use borrow.Author.Tests.{eq-eqb, ne_eqb, lt-ltb, le-ltb}
use Rattle.format.specs.TermRead as T
use Rattle.format.specs.Limits.{most_bytes}
use Rattle.format.specs.declared.refusals.Cause.{Cause}
use Rattle.format.specs.declared.refusals.Cause.TheVariants.{InputTooLong, LengthWrong}
use Rattle.format.specs.declared.refusals.Refusal.{Refusal}
use Rattle.format.specs.Results.{Result, told, refused_at}
use Rattle.format.specs.Tags.{tactic_kind}
use Rattle.format.specs.Terms.{Term}
use Rattle.format.specs.ReadTerms.{ParsedTerm, read_term}
use Rattle.format.specs.Shapes.{term_shape}
use Rattle.files.specs.Jobs.{last_term_of, read_last_term}
use Rattle.files.specs.TermFiles.{read_term_file}
use Rattle.files.specs.Shapes.{term_file_shape}
use Rattle.files.proofs.ToldLaws.{Pair, first_refused, first_read, term_tells, term_kept}

-- what the code tells of a term
abbrev part : Term → std.Result (Unit {0}) Refusal
part t = Ok tt

module _ (s : List ℕ) where
  pub too_long : most_bytes < length s → term_file_shape (read_term_file s) ≡ refused_at InputTooLong 0
  unfolding read_term_file term_file_shape told
  too_long h = rw (lt-ltb most_bytes (length s) h)

  abbrev the_term : Result ParsedTerm
  the_term = read_term (length s + 1) s tactic_kind 0 (length s) 0

  module _ (short : length s ≤ most_bytes) where
    pub term_refused : (k : Cause) (p : ℕ) → term_shape the_term ≡ T.Refused k p → term_file_shape (read_term_file s) ≡ refused_at k p
    unfolding read_term_file read_last_term term_file_shape term_shape
    term_refused k p e = rw (le-ltb most_bytes (length s) short) (first_refused term_tells term_kept refused_at part (last_term_of s) the_term k p e)

    -- a term of m fields stands there and ends at `next`
    module _ (next m : ℕ) (term : term_shape the_term ≡ T.Read next m) where
      pub bytes_left : (next ≡ length s → ⊥) → term_file_shape (read_term_file s) ≡ refused_at LengthWrong next
      unfolding read_term_file read_last_term last_term_of term_file_shape term_shape told
      bytes_left f =
          rw (le-ltb most_bytes (length s) short)
          (first_read term_tells term_kept refused_at part (last_term_of s) the_term (next, m) _ term (λ t given kept.
          let to-next : t.next ≡ next = ap (λ (q : Pair). q.0) kept in
          simp (to-next, ne_eqb next (length s) f)))

      pub term_read : next ≡ length s → term_file_shape (read_term_file s) ≡ Ok tt
      unfolding read_term_file read_last_term last_term_of term_file_shape term_shape told
      term_read f =
          rw (le-ltb most_bytes (length s) short)
          (first_read term_tells term_kept refused_at part (last_term_of s) the_term (next, m) _ term (λ t given kept.
          rw (eq-eqb t.next (length s) (ap (λ (q : Pair). q.0) kept ∙ f))))
