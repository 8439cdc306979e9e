-- The promises about a proof file of no bytes: it reads as its encoding does, so that each entry is followed on the empty proof; files without a header are 2.
-- Assumes nothing.
use Prim.Native.Nat.{ℕ, ◌≤◌, ◌<◌}
use native.Mathlib.Omega.{arith}
use mathlib.Core.Path.{◌≡◌, refl, sym, ap, subst, ◌∙◌}
use mathlib.Core.Bool.{true, false}
use mathlib.Core.Logic.{◌⊎◌, inl, inr, ◌↔◌}
use mathlib.Core.List.{List, [], ◌∷◌}
use lib.ListN.{length, replicate}
use borrow.Author.Tests.{lt-ltb, le-ltb}
use Rattle.format.specs.Limits.{most_steps, least_height, most_height, most_search_steps}
use Rattle.format.specs.declared.refusals.Cause.{Cause}
use Rattle.format.specs.Refusals.{number}
use Rattle.format.specs.Results.{gives, refused, and_then}
use Rattle.format.specs.Terms.{fields}
use Rattle.format.specs.Encoding.{GoalValues, goal_bytes, term_bytes}
use Rattle.rule_set.specs.Different.{different}
use Rattle.tables.specs.Tables.{Table}
use Rattle.tables.specs.ReadTables.{read_table}
use Rattle.files.specs.Proofs.{Proof, proof_bytes, empty_proof, read_proof}
use Rattle.files.specs.Derivations.{Derivation, read_flat, entries_bytes, flat_bytes, entries_place}
use Rattle.files.specs.Within.{EntryValues, FlatWithin}
use Rattle.files.specs.Counts.{uses_in, opens_in}
use Rattle.files.proofs.EmptyProof.{empty_bytes, none, read_itself, read_alike}
use Rattle.files.proofs.ReadsProof.{reads_empty, reads_none}
use Rattle.files.proofs.ReadsFlat.{flat_back}
use Rattle.files.proofs.ShortFiles.{proof_short, job_short, flat_short, term_file_short}
use Rattle.hitac.specs.Hiproofs.{atomics}
use Rattle.hitac.specs.Forest.{entries, leaves, forest}
use Rattle.hitac.specs.FlatWalk.{flat_walk}
use Rattle.hitac.specs.UsedRules.{walked_rules}
use Rattle.hitac.specs.Write.{tree_terms, written}
use Rattle.answers.specs.declared.Answer.{Answer}
use Rattle.answers.specs.Answers as answer
use Rattle.entries.specs.Outcomes.{Outcome, done}
use Rattle.entries.specs.LentSpace.{Checked, check_in, Written, write_out, write_in}
use Rattle.entries.specs.Check.{on_proof, proof_counts, forest_file, check_work, flatten_work, check, flatten}
use Rattle.entries.specs.CheckFlat.{none_pending, right, written_proof, written_file, write_outcome, check_flat_work, write_proof_work, check_flat_outcome, check_flat, write_proof}
use Rattle.entries.specs.Run.{run_work, run_outcome, run_tactic}
use Rattle.entries.specs.Search.{search_work, search_outcome, search_tactic}
use Rattle.entries.specs.Texts.{write_text_work, write_text_outcome, write_text}
use Rattle.entries.specs.PrintedLine.{accepted_line, refused_line, printed_line}
use Rattle.entries.specs.CheckProgram.{without_proof, program_outcome, check_program}
use Rattle.entries.specs.Worked.{no_goals_proof, no_bytes_line, unopened_line}
use Rattle.notation.specs.Written.{digits}
use Rattle.promises.specs.WriteProofPromises.{wrote}
use Rattle.promises.specs.NoBytesPromises.{no_goals, empty_list, NoBytes-read, NoBytesAccepted, NoBytes-accepted, NoBytes-short, on_fields, NoBytes-alone, NoBytesElsewhere, NoBytes-elsewhere, ProgramAnswers, Program-answers}
use Rattle.promises.proofs.CheckPromises.{empty_checked}

-- ---- reading

no_goals_lem : empty_proof ≡ no_goals
unfolding empty_proof
no_goals_lem = refl

pub no_bytes_read : NoBytes-read
no_bytes_read s bytes =
    subst (λ (x : Proof). (read_proof s ≡ gives x) ↔ ((s ≡ []) ⊎ (s ≡ no_goals_proof))) no_goals_lem
    (subst (λ (l : List ℕ). (read_proof s ≡ gives empty_proof) ↔ ((s ≡ []) ⊎ (s ≡ l))) empty_bytes (reads_empty s bytes))

-- ---- check and flatten, with a table that reads

module _ (t : List ℕ) (T : Table) (e : read_table t ≡ gives T) where
  -- a file that reads as the empty proof
  on_empty : {A : Type 0} (value : Table → Proof → A) (p : List ℕ) → read_proof p ≡ gives empty_proof → on_proof value t p ≡ done (value T empty_proof)
  unfolding on_proof
  on_empty value p f = rw (e, f, empty_checked T (value T empty_proof))

  counted : on_proof proof_counts t [] ≡ done (record { fields = 1; uses = 0; remaining = 0; rules = 0 })
  unfolding proof_counts fields atomics empty_proof walked_rules different
  counted = on_empty proof_counts [] reads_none

  nine_read : read_proof no_goals_proof ≡ gives empty_proof
  nine_read = ap read_proof (sym (none [] refl ∙ empty_bytes)) ∙ read_alike [] ∙ reads_none

  listed : (p : List ℕ) → read_proof p ≡ gives empty_proof → on_proof forest_file t p ≡ done empty_list
  unfolding forest_file flat_bytes goal_bytes entries_bytes forest empty_proof
  listed p f = on_empty forest_file p f

  -- the derivation of an empty goal list, and what is written for it
  abbrev none_derived : Derivation
  none_derived = record { roots = []; entries = [] }

  none_within : FlatWithin none_derived
  unfolding GoalValues uses_in opens_in EntryValues
  none_within = record { few_roots = omega arith; root_values = tt; few_uses = omega arith; few_opens = omega arith; entry_values = tt }

  list_read : read_flat empty_list ≡ gives none_derived
  unfolding flat_bytes goal_bytes entries_bytes
  list_read = flat_back none_derived none_within

  none_written : write_outcome t empty_list ≡ done no_goals_proof
  unfolding write_outcome written_file right flat_walk and_then none_pending written_proof written tree_terms proof_bytes goal_bytes term_bytes
  none_written = rw (e, list_read)

  accepted : NoBytesAccepted t
  unfolding check check_in flatten write_proof write_in write_out number
  accepted = record {
    checks = λ w h. rw (le-ltb (length w) check_work h, counted);
    flattens = λ w o h k. rw (le-ltb (length w) flatten_work h, listed [] reads_none, le-ltb (length o) 3 k);
    flattens_nine = λ w o h k. rw (le-ltb (length w) flatten_work h, listed no_goals_proof nine_read, le-ltb (length o) 3 k);
    no_room = λ w o h k. rw (le-ltb (length w) flatten_work h, listed [] reads_none, lt-ltb (length o) 3 k);
    written_back = λ w o h k. rw (le-ltb (length w) write_proof_work h, none_written, le-ltb (length o) 9 k);
  }

  short : (p w v o : List ℕ) → 0 < length p → length p < 3 → check_work ≤ length w → flatten_work ≤ length v → ((check t p w).answer ≡ answer.refusal 2 2 0 0) × ((flatten t p v o).answer ≡ answer.refusal 2 2 0 0)
  unfolding check check_in flatten write_in write_out on_proof number
  short p w v o some few h k = let f = proof_short p few some in (rw (le-ltb (length w) check_work h, e, f), rw (le-ltb (length v) flatten_work k, e, f))

  elsewhere : NoBytesElsewhere t
  unfolding run_tactic run_outcome search_tactic search_outcome check_flat check_flat_outcome check_in write_proof write_outcome write_text write_text_outcome write_in write_out number
  elsewhere = record {
    job = λ b w o l h. rw (le-ltb (length w) run_work h, le-ltb most_steps b l, e, job_short [] (omega arith));
    searched_job = λ n b w o least most l h. rw (le-ltb (length w) search_work h, le-ltb most_search_steps b l, le-ltb n least_height least, le-ltb most_height n most, e, job_short [] (omega arith));
    flat = λ w h. rw (le-ltb (length w) check_flat_work h, e, flat_short [] (omega arith));
    written_flat = λ w o h. rw (le-ltb (length w) write_proof_work h, e, flat_short [] (omega arith));
    term = λ w o h. rw (le-ltb (length w) write_text_work h, term_file_short [] (omega arith));
  }

pub no_bytes_accepted : NoBytes-accepted
no_bytes_accepted t T e = accepted t T e

pub no_bytes_short : NoBytes-short
no_bytes_short t p w v o T e some few h k = short t T e p w v o some few h k

pub no_bytes_elsewhere : NoBytes-elsewhere
no_bytes_elsewhere t T e = elsewhere t T e

-- ---- every other proof file

on_fields_lem : {A : Type 0} (value : Table → Proof → A) (t p : List ℕ) → 0 < length p → on_proof value t p ≡ on_fields value t p
unfolding on_proof on_fields
on_fields_lem value t p some = rw (read_itself p some)

pub no_bytes_alone : NoBytes-alone
unfolding check flatten
no_bytes_alone t p w o some = (ap (check_in check_work w) (on_fields_lem proof_counts t p some), ap (write_in flatten_work w o) (on_fields_lem forest_file t p some))

-- ---- the check program

pub program_answers : Program-answers
unfolding check_program program_outcome without_proof check check_in number accepted_line refused_line printed_line digits
program_answers t p w h = record {
  opened = refl;
  unopened = λ T e. without T e;
  table_first = λ c q e. rw (le-ltb (length w) check_work h, e);
  unopened_printed = λ T e. rw (without T e);
  no_bytes_printed = λ T e. rw ((accepted t T e).checks w h);
}
  where
    without : (T : Table) → read_table t ≡ gives T → check_program t p false w ≡ record { answer = answer.refusal 2 2 0 0; work = replicate (length w) 0 }
    without T e = rw (le-ltb (length w) check_work h, e)
