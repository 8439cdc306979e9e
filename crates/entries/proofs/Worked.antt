-- The worked lines hold: each is computed.
-- Assumes nothing.
use mathlib.Core.Path.{◌≡◌, refl}
use mathlib.Core.List.{List, []}
use Prim.Native.Nat.{ℕ, ◌<◌}
use native.Mathlib.Omega.{arith}
use lib.ListN.{length, replicate, length-replicate}
use borrow.Author.Tests.{lt-ltb}
use Rattle.format.specs.Limits.{most_bytes}
use Rattle.format.specs.declared.refusals.Cause.TheVariants.{InputTooLong}
use Rattle.entries.specs.Outcomes.{refusal, table_file}
use Rattle.words.specs.Word.{word}
use Rattle.format.specs.Encoding.{term_bytes, goal_bytes}
use Rattle.format.specs.Goals.{goals_at, goals_of, read_goals}
use Rattle.format.specs.Headers.{header_at}
use Rattle.format.specs.ReadTerms.{leaf, pair, closed, contents, term_of, read_term}
use Rattle.format.specs.Refusals.{number}
use Rattle.format.specs.Results.{and_then}
use Rattle.format.specs.Tags.{rows, find_row, row_of, kind_of, least_of, most_of, inner_of, length_fits}
use Rattle.format.specs.Next.{full_table, lowest, full_flat}
use Rattle.format.specs.Terms.{size, fields}
use Rattle.rule_set.specs.Different.{among, different}
use Rattle.tables.specs.Lookup.{find_rule_in, find_rule, find_body_in, find_body, matches}
use Rattle.tables.specs.ReadTables.{rule_of, definition_of, field_of, read_field, with_rule, with_definition, fields_of, read_fields, read_table}
use Rattle.tables.specs.Repeats.{rule_size, definition_size, rules_size, placed_rules, placed_tactics, placed_labels, labels_of, clashes_any, first_clash, repeats_rule, recounts_rule, repeats_tactic, repeats_label, refuse_at, whole_table}
use Rattle.tables.specs.Search.{searched_tag, step_at, besides, clash_at, places, clash_told}
use Rattle.files.specs.Counts.{job_term_place}
use Rattle.files.specs.Derivations.{with_entry, entries_of, read_entries, derivation_of, read_flat, entry_bytes, entries_bytes, flat_bytes, entries_place}
use Rattle.files.specs.Jobs.{last_term_of, read_last_term, job_of, read_job, job_bytes}
use Rattle.files.specs.Proofs.{remaining_of, hiproof_of, proof_of, read_proof_fields, proof_bytes, term_place, remaining_place, empty_proof, or_empty_proof, read_proof}
use Rattle.hitac.specs.Counts.{taken}
use Rattle.hitac.specs.UsedRules.{found_number, looked_up, walked_rules, flat_rules}
use Rattle.hitac.specs.FlatWalk.{flat_walk}
use Rattle.hitac.specs.Forest.{forest}
use Rattle.hitac.specs.Hiproofs.{input_arity, atomics, drop_labels, Unlabelled}
use Rattle.evaluation.specs.Machine.{held, unwind, begin, step_from, step, run, start}
use Rattle.evaluation.specs.TacticArity.{arity_in, arity_after, tactic_arity}
use Rattle.hitac.specs.Walk.{on_one_goal, on_no_goal, premises_or, too_long, joined, walk}
use Rattle.hitac.specs.Write.{tree_terms, written}
use Rattle.entries.specs.Check.{same_goals, remaining_are, checked, on_proof, proof_counts, forest_file, check, flatten}
use Rattle.entries.specs.CheckFlat.{none_pending, right, flat_counts, check_flat_outcome, written_proof, written_file, write_outcome, check_flat, write_proof}
use Rattle.entries.specs.LentSpace.{check_in, write_out, write_in}
use Rattle.entries.specs.Lines.{Holds, AllHold, no_more, ◌&◌}
use Rattle.search.specs.Events.{for_each}
use Rattle.search.specs.Trace.{in_label, then_right, beside_right, splits, following, trace}
use Rattle.search.specs.Answer.{first_found, search}
use Rattle.search.specs.Worked.{beside}
use Rattle.files.specs.TermFiles.{read_term_file}
use Rattle.notation.specs.Letters.{is_digit}
use Rattle.notation.specs.Written.{chain, bracketed_if, marks_of, digits, decimal, mark_bytes, text_of}
use Rattle.notation.specs.Written as N
use Rattle.notation.specs.MarksIn.{number_in, mark_at, with_mark, marks_in}
use Rattle.notation.specs.FromRight.{reduced_term, reduced_frames, unbracket, on_mark, state_of, whole_of}
use Rattle.notation.specs.FromRight as F
use Rattle.notation.specs.Scans.{completes, begins_numbered, is_sign, on_due, on_had, digit_more, leaf_ends, on_digits, label_ends, on_label_digits, on_begun, on_label_begun, on_half, step_in, finished, end_in, at_end, scan}
use Rattle.notation.specs.Scans as S
use Rattle.notation.specs.Parse.{term_found, parse}
use Rattle.entries.specs.Texts.{read_text_outcome, write_text_outcome}
use Rattle.entries.specs.PrintedLine.{accepted_line, refused_line, printed_line}
use Rattle.entries.specs.CheckProgram.{without_proof, program_outcome}
use Rattle.entries.specs.Run.{run_end, run_result, run_outcome, run_tactic}
use Rattle.entries.specs.Search.{search_end, search_outcome, search_tactic}
use Rattle.entries.specs.Worked.{side_by_side, side_by_side_or, starred_lines, edge_lines, no_byte_lines, rule_lines, text_lines, search_lines}

pub starred : AllHold starred_lines
unfolding word term_bytes goal_bytes goals_at goals_of read_goals header_at leaf pair closed contents term_of read_term number and_then rows find_row row_of kind_of least_of most_of inner_of length_fits size fields find_rule_in find_rule find_body_in find_body matches full_table lowest rule_of definition_of field_of read_field with_rule with_definition fields_of read_fields read_table rule_size definition_size rules_size placed_rules placed_tactics placed_labels labels_of clashes_any first_clash repeats_rule recounts_rule repeats_tactic repeats_label refuse_at whole_table searched_tag step_at besides clash_at places clash_told job_term_place full_flat with_entry entries_of read_entries derivation_of read_flat entry_bytes entries_bytes flat_bytes entries_place last_term_of read_last_term job_of read_job job_bytes remaining_of hiproof_of proof_of read_proof_fields proof_bytes empty_proof or_empty_proof read_proof term_place remaining_place different among found_number looked_up walked_rules flat_rules taken flat_walk forest input_arity atomics drop_labels Unlabelled held unwind begin step_from step run start arity_in arity_after tactic_arity on_one_goal on_no_goal premises_or too_long joined walk tree_terms written same_goals remaining_are checked on_proof proof_counts forest_file check flatten none_pending right flat_counts check_flat_outcome written_proof written_file write_outcome check_flat write_proof check_in write_out write_in Holds digits accepted_line refused_line printed_line run_end run_result run_outcome run_tactic beside side_by_side side_by_side_or starred_lines edge_lines
starred = refl & refl & refl & refl & refl & refl & refl & refl & refl & refl & refl & refl & refl & no_more

-- a table of more bytes than a file may have is refused unread
too_long_lem : (s p : List ℕ) → most_bytes < length s → on_proof proof_counts s p ≡ refusal InputTooLong table_file 0 0
unfolding on_proof read_table
too_long_lem s p h = rw (lt-ltb most_bytes (length s) h)

pub edges : AllHold edge_lines
unfolding word term_bytes goal_bytes goals_at goals_of read_goals header_at leaf pair closed contents term_of read_term number and_then rows find_row row_of kind_of least_of most_of inner_of length_fits size fields find_rule_in find_rule find_body_in find_body matches full_table lowest rule_of definition_of field_of read_field with_rule with_definition fields_of read_fields read_table rule_size definition_size rules_size placed_rules placed_tactics placed_labels labels_of clashes_any first_clash repeats_rule recounts_rule repeats_tactic repeats_label refuse_at whole_table searched_tag step_at besides clash_at places clash_told job_term_place full_flat with_entry entries_of read_entries derivation_of read_flat entry_bytes entries_bytes flat_bytes entries_place last_term_of read_last_term job_of read_job job_bytes remaining_of hiproof_of proof_of read_proof_fields proof_bytes empty_proof or_empty_proof read_proof term_place remaining_place different among found_number looked_up walked_rules flat_rules taken flat_walk forest input_arity atomics drop_labels Unlabelled held unwind begin step_from step run start arity_in arity_after tactic_arity on_one_goal on_no_goal premises_or too_long joined walk tree_terms written same_goals remaining_are checked on_proof proof_counts forest_file check flatten none_pending right flat_counts check_flat_outcome written_proof written_file write_outcome check_flat write_proof check_in write_out write_in Holds digits accepted_line refused_line printed_line without_proof program_outcome run_end run_result run_outcome run_tactic beside side_by_side side_by_side_or starred_lines edge_lines
edges =
    refl & refl & refl & refl
    & too_long_lem (replicate 65536 0) [] (rw length-replicate (omega arith))
    & refl & refl & refl & refl & refl & refl & refl & refl & refl & refl & refl & refl
    & refl & refl & refl & refl & refl & refl & refl & refl & refl & refl & refl & refl
    & refl & refl & refl & refl & refl & refl & refl & refl & refl & refl & refl & refl
    & refl & refl & refl & refl & refl & refl & refl & refl & refl & refl & refl & no_more

pub no_bytes : AllHold no_byte_lines
unfolding word term_bytes goal_bytes goals_at goals_of read_goals header_at leaf pair closed contents term_of read_term number and_then rows find_row row_of kind_of least_of most_of inner_of length_fits size fields find_rule_in find_rule find_body_in find_body matches full_table lowest rule_of definition_of field_of read_field with_rule with_definition fields_of read_fields read_table rule_size definition_size rules_size placed_rules placed_tactics placed_labels labels_of clashes_any first_clash repeats_rule recounts_rule repeats_tactic repeats_label refuse_at whole_table searched_tag step_at besides clash_at places clash_told job_term_place full_flat with_entry entries_of read_entries derivation_of read_flat entry_bytes entries_bytes flat_bytes entries_place last_term_of read_last_term job_of read_job job_bytes remaining_of hiproof_of proof_of read_proof_fields proof_bytes empty_proof or_empty_proof read_proof term_place remaining_place different among found_number looked_up walked_rules flat_rules taken flat_walk forest input_arity atomics drop_labels Unlabelled held unwind begin step_from step run start arity_in arity_after tactic_arity on_one_goal on_no_goal premises_or too_long joined walk tree_terms written same_goals remaining_are checked on_proof proof_counts forest_file check flatten none_pending right flat_counts check_flat_outcome written_proof written_file write_outcome check_flat write_proof check_in write_out write_in Holds digits accepted_line refused_line printed_line without_proof program_outcome run_end run_result run_outcome run_tactic beside side_by_side side_by_side_or starred_lines no_byte_lines
no_bytes = refl & refl & refl & refl & refl & refl & refl & refl & refl & refl & refl & refl & no_more

pub rule_counts : AllHold rule_lines
unfolding word term_bytes goal_bytes goals_at goals_of read_goals header_at leaf pair closed contents term_of read_term number and_then rows find_row row_of kind_of least_of most_of inner_of length_fits size fields find_rule_in find_rule find_body_in find_body matches full_table lowest rule_of definition_of field_of read_field with_rule with_definition fields_of read_fields read_table rule_size definition_size rules_size placed_rules placed_tactics placed_labels labels_of clashes_any first_clash repeats_rule recounts_rule repeats_tactic repeats_label refuse_at whole_table searched_tag step_at besides clash_at places clash_told job_term_place full_flat with_entry entries_of read_entries derivation_of read_flat entry_bytes entries_bytes flat_bytes entries_place last_term_of read_last_term job_of read_job job_bytes remaining_of hiproof_of proof_of read_proof_fields proof_bytes empty_proof or_empty_proof read_proof term_place remaining_place different among found_number looked_up walked_rules flat_rules taken flat_walk forest input_arity atomics drop_labels Unlabelled held unwind begin step_from step run start arity_in arity_after tactic_arity on_one_goal on_no_goal premises_or too_long joined walk tree_terms written same_goals remaining_are checked on_proof proof_counts forest_file check flatten none_pending right flat_counts check_flat_outcome written_proof written_file write_outcome check_flat write_proof check_in write_out write_in Holds digits accepted_line refused_line printed_line without_proof program_outcome run_end run_result run_outcome run_tactic beside side_by_side side_by_side_or rule_lines
rule_counts = refl & refl & refl & refl & refl & refl & refl & refl & refl & no_more

pub texts : AllHold text_lines
unfolding word term_bytes header_at leaf pair closed contents term_of read_term number and_then rows find_row row_of kind_of least_of most_of inner_of length_fits size fields last_term_of read_last_term read_term_file is_digit chain bracketed_if marks_of digits decimal mark_bytes text_of N.written number_in mark_at with_mark marks_in reduced_term reduced_frames unbracket on_mark state_of whole_of F.term_of completes begins_numbered is_sign on_due on_had digit_more leaf_ends on_digits label_ends on_label_digits on_begun on_label_begun on_half step_in S.step finished end_in at_end scan term_found parse Holds read_text_outcome write_text_outcome text_lines
texts = refl & refl & refl & refl & refl & refl & no_more

pub searched : AllHold search_lines
unfolding word term_bytes goal_bytes goals_at goals_of read_goals header_at leaf pair closed contents term_of read_term number and_then rows find_row row_of kind_of least_of most_of inner_of length_fits size fields find_rule_in find_rule find_body_in find_body matches full_table lowest rule_of definition_of field_of read_field with_rule with_definition fields_of read_fields read_table rule_size definition_size rules_size placed_rules placed_tactics placed_labels labels_of clashes_any first_clash repeats_rule recounts_rule repeats_tactic repeats_label refuse_at whole_table searched_tag step_at besides clash_at places clash_told job_term_place full_flat with_entry entries_of read_entries derivation_of read_flat entry_bytes entries_bytes flat_bytes entries_place last_term_of read_last_term job_of read_job job_bytes remaining_of hiproof_of proof_of read_proof_fields proof_bytes empty_proof or_empty_proof read_proof term_place remaining_place different among found_number looked_up walked_rules flat_rules taken flat_walk forest input_arity atomics drop_labels Unlabelled held unwind begin step_from step run start arity_in arity_after tactic_arity on_one_goal on_no_goal premises_or too_long joined walk tree_terms written same_goals remaining_are checked on_proof proof_counts forest_file check flatten none_pending right flat_counts check_flat_outcome written_proof written_file write_outcome check_flat write_proof check_in write_out write_in Holds digits accepted_line refused_line printed_line run_end run_result run_outcome run_tactic beside side_by_side side_by_side_or search_lines edge_lines for_each in_label then_right beside_right splits following trace first_found search search_end search_outcome search_tactic
searched = refl & refl & refl & refl & refl & refl & refl & refl & refl & refl & refl & refl & refl & refl & refl & no_more
