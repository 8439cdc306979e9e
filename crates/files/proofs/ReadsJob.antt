-- READING A JOB: a file of bytes reads as a job exactly if it is the job's bytes and the job is within the limits. What stands in the file is the encoding, part by part; and each part is read from its encoding.
-- Assumes nothing.
use mathlib.Core.Path.{◌≡◌, refl, sym, ap, ◌∙◌}
use mathlib.Core.Logic.{◌↔◌}
use mathlib.Core.List.{List, [], ◌++◌, append-nil}
use Prim.Native.Nat.{ℕ, ◌+◌, ◌*◌, ◌≤◌}
use native.Mathlib.Omega.{arith}
use lib.ListN.{length, drop}
use lib.Seq.{drop-length}
use borrow.Author.Tests.{eq-eqb}
use Rattle.format.specs.Results.{gives, and_then}
use Rattle.format.specs.Tags.{tactic_kind}
use Rattle.format.specs.Terms.{size}
use Rattle.format.specs.Encoding.{Bytes, term_bytes, goal_list_bytes}
use Rattle.format.proofs.Encoded.{term_bytes_lem}
use Rattle.format.proofs.TermBytes.{values_stand, bytes_read}
use Rattle.format.proofs.GoalListBytes.{list_bytes}
use Rattle.format.proofs.EncodedBytes.{append_bytes, list_is_bytes, term_is_bytes}
use Rattle.files.specs.Jobs.{Job, last_term_of, read_last_term, job_of, read_job, job_bytes}
use Rattle.files.specs.Counts.{job_term_place}
use Rattle.files.specs.Standing.{JobStands}
use Rattle.files.specs.Within.{JobWithin}
use Rattle.files.proofs.Files.{begins}
use Rattle.files.proofs.WhatStands.{job_stands}
use Rattle.files.proofs.Sizes.{size_most, length-job_bytes, job_most}

module _ (s : List ℕ) (bytes : Bytes s) (j : Job) where
  abbrev g : List ℕ
  g = goal_list_bytes j.goals

  abbrev t : List ℕ
  t = term_bytes j.term

  pub job_encoded : JobStands s j → (s ≡ job_bytes j) × JobWithin j
  unfolding job_bytes job_term_place
  job_encoded st =
      let goals = list_bytes s bytes 0 j.goals st.goals_stand.head st.goals_stand.goals_are in
      let term = term_bytes_lem s bytes j.term (job_term_place j) st.term_stands in
      let none = ap (λ (i : ℕ). t ++ drop i s) st.end_is ∙ ap (λ (l : List ℕ). t ++ l) (drop-length s) ∙ append-nil t in (
        goals.0 ∙ ap (λ (l : List ℕ). g ++ l) (term ∙ none),
        record {
          few_goals = st.goals_stand.few;
          goal_values = goals.1;
          few_fields = st.few_fields;
          term_values = values_stand s bytes j.term (job_term_place j) st.term_stands;
        },
      )

  pub job_decoded : s ≡ job_bytes j → JobWithin j → read_job s ≡ gives j
  unfolding read_job job_of read_last_term last_term_of and_then job_bytes job_term_place
  job_decoded e w =
      let at = 3 + length j.goals * 2 in
      let all : length s ≡ at + size j.term = ap length e ∙ length-job_bytes j in
      let most : length s ≤ 20995 = rw e (job_most j w) in
      let b = begins s (job_of s) j.goals t w.goal_values w.few_goals (omega arith) e in
      let term = bytes_read s bytes tactic_kind (omega arith) j.term (length s + 1) at (length s) 0 [] w.term_values (omega (arith, most, all)) (b.1 ∙ sym (append-nil t)) (λ h. absurd (omega arith)) (omega (arith, all)) (omega (arith, w.few_fields)) (omega (arith, all)) in
      b.0 ∙ rw (term, eq-eqb (at + size j.term) (length s) (sym all))

pub reads_job : (s : List ℕ) (j : Job) → Bytes s → (read_job s ≡ gives j) ↔ ((s ≡ job_bytes j) × JobWithin j)
reads_job s j bytes = (λ e. job_encoded s bytes j (job_stands s j e), λ q. job_decoded s bytes j q.0 q.1)

-- encoding, then reading, gives the job back
pub job_back : (j : Job) → JobWithin j → read_job (job_bytes j) ≡ gives j
job_back j w = (reads_job (job_bytes j) j bytes).1 (refl, w)
  where
    bytes : Bytes (job_bytes j)
    bytes = unfold job_bytes in append_bytes (goal_list_bytes j.goals) (term_bytes j.term) (list_is_bytes j.goals w.goal_values (omega (arith, w.few_goals))) (term_is_bytes j.term w.term_values (omega (arith, size_most j.term, w.few_fields)))
