-- READING A TERM FILE: a file of bytes reads as a term exactly if it is the term's bytes and the term is within the limits. What stands in the file is the encoding; and the term is read from its encoding.
-- Assumes nothing.
use mathlib.Core.Path.{◌≡◌, refl, sym, ap, ◌∙◌}
use mathlib.Core.Logic.{◌↔◌}
use mathlib.Core.List.{List, [], ◌++◌, append-nil}
use Prim.Native.Nat.{ℕ, ◌+◌, ◌≤◌}
use native.Mathlib.Omega.{arith}
use lib.ListN.{length, drop}
use lib.Seq.{drop-length}
use borrow.Author.Tests.{eq-eqb, le-ltb}
use Rattle.format.specs.Limits.{most_bytes}
use Rattle.format.specs.Results.{gives, and_then}
use Rattle.format.specs.Tags.{tactic_kind}
use Rattle.format.specs.Terms.{Term, size}
use Rattle.format.specs.Encoding.{Bytes, term_bytes}
use Rattle.format.proofs.Encoded.{length-term_bytes, term_bytes_lem}
use Rattle.format.proofs.TermBytes.{values_stand, bytes_read}
use Rattle.format.proofs.EncodedBytes.{term_is_bytes}
use Rattle.files.specs.Jobs.{last_term_of, read_last_term}
use Rattle.files.specs.TermFiles.{read_term_file}
use Rattle.files.specs.Standing.{TermFileStands}
use Rattle.files.specs.Within.{TermFileWithin}
use Rattle.files.proofs.WhatStands.{term_file_stands}
use Rattle.files.proofs.Sizes.{size_most}

module _ (s : List ℕ) (bytes : Bytes s) (t : Term) where
  pub term_file_encoded : TermFileStands s t → (s ≡ term_bytes t) × TermFileWithin t
  term_file_encoded st =
      let term = term_bytes_lem s bytes t 0 st.term_stands in
      let ends : 0 + size t ≡ length s = omega (arith, st.end_is) in
      let none = ap (λ (i : ℕ). term_bytes t ++ drop i s) ends ∙ ap (λ (l : List ℕ). term_bytes t ++ l) (drop-length s) ∙ append-nil (term_bytes t) in
      (term ∙ none, record { few_fields = st.few_fields; term_values = values_stand s bytes t 0 st.term_stands })

  pub term_file_decoded : s ≡ term_bytes t → TermFileWithin t → read_term_file s ≡ gives t
  unfolding read_term_file read_last_term last_term_of and_then
  term_file_decoded e w =
      let all : length s ≡ size t = ap length e ∙ length-term_bytes t in
      let most : length s ≤ most_bytes = omega (arith, all, size_most t, w.few_fields) in
      let term = bytes_read s bytes tactic_kind (omega arith) t (length s + 1) 0 (length s) 0 [] w.term_values (omega (arith, most, all)) (e ∙ sym (append-nil (term_bytes t))) (λ h. absurd (omega arith)) (omega (arith, all)) (omega (arith, w.few_fields)) (omega (arith, all)) in
      rw (le-ltb most_bytes (length s) most, term, eq-eqb (0 + size t) (length s) (omega (arith, all)))

pub reads_term_file : (s : List ℕ) (t : Term) → Bytes s → (read_term_file s ≡ gives t) ↔ ((s ≡ term_bytes t) × TermFileWithin t)
reads_term_file s t bytes = (λ e. term_file_encoded s bytes t (term_file_stands s t e), λ q. term_file_decoded s bytes t q.0 q.1)

-- encoding, then reading, gives the term back
pub term_file_back : (t : Term) → TermFileWithin t → read_term_file (term_bytes t) ≡ gives t
term_file_back t w = (reads_term_file (term_bytes t) t (term_is_bytes t w.term_values (omega (arith, size_most t, w.few_fields)))).1 (refl, w)
