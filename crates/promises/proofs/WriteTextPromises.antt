-- The promises about texts that are written, from the laws of the notation and of term files.
-- Assumes nothing.
use mathlib.Core.Path.{◌≡◌, refl, sym, ap, ◌∙◌, subst}
use mathlib.Core.Bool.{false}
use mathlib.Core.List.{List, []}
use Prim.Native.Nat.{ℕ, ◌≤◌, ◌<◌}
use native.Mathlib.Omega.{arith}
use native.Mathlib.Decide.{dec_lt}
use lib.ListN.{length}
use borrow.Author.Tests.{lt-ltb, le-ltb}
use Rattle.format.specs.declared.refusals.Cause.{Cause}
use Rattle.format.specs.Refusals.{number}
use Rattle.format.specs.Results.{Result, gives, refused}
use Rattle.format.specs.Terms.{Term}
use Rattle.format.specs.Encoding.{Bytes, term_bytes}
use Rattle.format.proofs.ResultLaws.{number_positive}
use Rattle.files.specs.TermFiles.{read_term_file}
use Rattle.files.specs.Within.{TermFileWithin}
use Rattle.files.proofs.RefusedFiles.{TermFile-refused}
use Rattle.files.proofs.ReadsTermFile.{reads_term_file, term_file_back}
use Rattle.notation.specs.Written.{marks_of, written}
use Rattle.notation.specs.Spacing.{Spaced}
use Rattle.notation.proofs.WrittenLaws.{marks_read}
use Rattle.notation.proofs.WrittenText.{marks_values, written-reads, brackets_needed}
use Rattle.notation.proofs.SpacingLaws.{text_spaced}
use Rattle.notation.proofs.RoundTrip.{written-length}
use Rattle.answers.specs.declared.Answer.{Answer}
use Rattle.answers.specs.Answers as answer
use Rattle.entries.specs.Outcomes as outcomes
use Rattle.entries.specs.Outcomes.{in_file, done, other_file}
use Rattle.entries.specs.LentSpace.{Written, write_out, write_in}
use Rattle.entries.specs.Texts.{write_text_work, write_text_outcome, write_text}
use Rattle.promises.specs.Ended.{InOther}
use Rattle.promises.specs.WriteProofPromises.{wrote}
use Rattle.promises.specs.ReadTextPromises.{TextReads}
use Rattle.promises.specs.WriteTextPromises.{WritesText, WriteText-writes, WriteText-only, NoneOwn, EndsTerm, WriteText-ends}
use Rattle.promises.proofs.LentLaws.{ends_written, other_file_lem}
use Rattle.promises.proofs.OutcomeLaws.{Comes, comes_done, comes_other, written_ends}
use Rattle.promises.proofs.ReadTextPromises.{read_text-reads}

-- the call, by what the file reads as
call : (file work out : List ℕ) (r : Result Term) → write_text_work ≤ length work → read_term_file file ≡ r → write_text file work out ≡ write_out work out (in_file other_file r (λ t. done (written t)))
unfolding write_text write_text_outcome write_in
call file work out r h e = rw (le-ltb (length work) write_text_work h, e)

module _ (t : Term) (within : TermFileWithin t) where
  longest : length (written t) ≤ 28671
  longest = omega (arith, written-length t, within.few_fields)

  reads : TextReads (written t) t
  reads = record { short = omega (arith, longest); reads = written-reads t within.term_values; values = within.term_values; few = within.few_fields }

  fits : (w o : List ℕ) → length (written t) ≤ length o → write_out w o (done (written t)) ≡ wrote (written t) w o
  unfolding write_out
  fits w o h = rw (le-ltb (length o) (length (written t)) h)

  too_short : (w o : List ℕ) → length o < length (written t) → (write_out w o (done (written t))).answer ≡ answer.refusal 26 0 0 0
  unfolding write_out number
  too_short w o h = rw (lt-ltb (length o) (length (written t)) h)

  spaced_text : Spaced (marks_of t 0 false) (written t)
  unfolding written
  spaced_text = text_spaced (marks_of t 0 false) (marks_values t 0 false within.term_values)

  writes_text_lem : WritesText (term_bytes t) t
  writes_text_lem = record {
    text = written t;
    writes = λ w o h k. call (term_bytes t) w o (gives t) h (term_file_back t within) ∙ fits w o k;
    no_room = λ w o h k. ap (λ (c : Written). c.answer) (call (term_bytes t) w o (gives t) h (term_file_back t within)) ∙ too_short w o k;
    longest = longest;
    reads = reads.reads;
    reads_back = λ w o h k. (read_text-reads (written t) w o h).written t reads k;
    brackets = λ a b c e x. brackets_needed t a b c within.term_values e x;
    marks = marks_of t 0 false;
    end = (marks_read t).0;
    marks_read = (marks_read t).1;
    spaced = spaced_text;
  }

pub write_text_writes : WriteText-writes
write_text_writes t within = writes_text_lem t within

pub write_text_only : WriteText-only
unfolding write_text write_text_outcome write_in write_out number
write_text_only file w o bytes z = by_work (dec_lt (length w) write_text_work)
  where
    from : (r : Result Term) → read_term_file file ≡ r → (write_out w o (in_file other_file r (λ t. done (written t)))).answer.number ≡ 0 → (t : Term) × (file ≡ term_bytes t) × TermFileWithin t
    from (gives t) e y = let x = (reads_term_file file t bytes).0 e in (t, x.0, x.1)
    from (refused c p) e y = absurd (omega (arith, y, number_positive c))

    by_work : Dec (length w < write_text_work) → (t : Term) × (file ≡ term_bytes t) × TermFileWithin t
    by_work (yes h) = absurd (let k = lt-ltb (length w) write_text_work h in omega (arith, rw k at z))
    by_work (no h) = from (read_term_file file) refl (ap (λ (x : Written). x.answer.number) (sym (call file w o (read_term_file file) (omega arith) refl)) ∙ z)

-- demand 1
comes_term : (file : List ℕ) → Comes [] file NoneOwn (write_text_outcome file)
unfolding write_text_outcome
comes_term file = go (read_term_file file) refl
  where
    go : (r : Result Term) → read_term_file file ≡ r → Comes [] file NoneOwn (in_file other_file r (λ t. done (written t)))
    go (gives t) e = comes_done (written t)
    go (refused c p) e = let x = TermFile-refused file c p e in comes_other c p x.least x.most x.within

pub write_text_ends : WriteText-ends
unfolding write_text write_text_outcome
write_text_ends file work out = record {
  ends = ends_written [] file work out (InOther NoneOwn) write_text_work (write_text_outcome file) (written_ends (comes_term file));
  no_table = other_file_lem write_text_work work out (read_term_file file) written;
}
