-- What the entry write_text comes to, by cases: a file that is refused, or the text of its term.
-- Assumes nothing.
use Rattle.std.specs.Prelude.{Ok, Err}
use mathlib.Core.Path.{◌≡◌, refl, ap, ◌∙◌}
use mathlib.Core.List.{List, ◌++◌}
use Prim.Native.Nat.{ℕ, ◌+◌, ◌≤◌}
use native.Mathlib.Omega.{arith}
use lib.ListN.{length, take, drop}
use lib.Seq.{paste}
use Rattle.format.specs.Terms.{Term}
use Rattle.format.specs.declared.refusals.Refusal.{Refusal}
use Rattle.format.specs.Refusals.{number}
use Rattle.files.specs.TermFiles.{read_term_file}
use Rattle.files.specs.Shapes.{term_file_shape}
use Rattle.files.specs.Standing.{TermFileStands}
use Rattle.files.proofs.WhatStands.{term_file_stands}
use Rattle.files.proofs.RefusedFiles.{TermFile-refused}
use Rattle.files.proofs.Answers.{term_file_read, term_file_refused}
use Rattle.answers.specs.Answers.{refusal, wrote}
use Rattle.notation.specs.Written.{written}
use Rattle.notation.proofs.RoundTrip.{written-length}
use Rattle.entries.specs.Outcomes.{other_file, done}
use Rattle.entries.specs.LentSpace.{write_out}
use Rattle.entries.specs.Texts.{write_text_outcome}
use Rattle.entries.specs.Left.{kept, left_in}
use Rattle.entries.proofs.LeftLaws.{enough_room}

module _ (s : List ℕ) where
  pub refused_place : (r : Refusal) → term_file_shape (read_term_file s) ≡ Err r → r.place ≤ 65535
  refused_place r e = (TermFile-refused s r.cause r.place (term_file_refused s r e)).below

  pub refused_file : (out : List ℕ) (r : Refusal) → term_file_shape (read_term_file s) ≡ Err r → kept (refusal (number r.cause) other_file r.place 0) out ≡ left_in out (write_text_outcome s)
  unfolding write_text_outcome write_out
  refused_file out r e = let c = term_file_refused s r e in rw c

  -- the term of a file that reads
  pub record Found : Type 0 where
    pub term : Term
    pub stands : TermFileStands s term
    pub outcome_is : write_text_outcome s ≡ done (written term)

  pub found_file : term_file_shape (read_term_file s) ≡ Ok tt → Found
  unfolding write_text_outcome
  found_file e = let t = term_file_read s e in record { term = t.0; stands = term_file_stands s t.0 t.1; outcome_is = rw t.1 refl }

pub text_few : (s : List ℕ) (t : Term) → TermFileStands s t → length (written t) ≤ 28671
text_few s t st = omega (arith, written-length t, st.few_fields)

-- the text copied from the work space
pub copied : (work out : List ℕ) (len : ℕ) (text : List ℕ) → (len ≡ length text) × (take len work ≡ text) → len ≤ length out → kept (wrote len 0) (paste out 0 (drop 0 work) len) ≡ left_in out (done text)
copied work out len text h l =
    let n : 0 + len ≡ length text = omega (arith, h.0) in
    let bytes : paste out 0 (drop 0 work) len ≡ text ++ drop (length text) out = ap (λ (y : List ℕ). y ++ drop (0 + len) out) h.1 ∙ ap (λ (i : ℕ). text ++ drop i out) n in
    (λ i. kept (wrote (h.0 i) 0) (bytes i)) ∙ enough_room text 0 out (omega (arith, h.0, l))
