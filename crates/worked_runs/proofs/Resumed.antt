-- The lines of P1 with states of full size hold: each is computed.
-- Assumes nothing.
use mathlib.Core.Path.{refl}
use Rattle.words.specs.Word.{word}
use Rattle.format.specs.Encoding.{term_bytes, goal_bytes}
use Rattle.format.specs.Goals.{goals_at, goals_of, read_goals}
use Rattle.format.specs.Headers.{header_at}
use Rattle.format.specs.ReadTerms.{leaf, pair, closed, contents, term_of, read_term}
use Rattle.format.specs.Refusals.{number}
use Rattle.format.specs.Results.{and_then}
use Rattle.format.specs.Tags.{rows, find_row, row_of, kind_of, least_of, most_of, inner_of, length_fits}
use Rattle.format.specs.Next.{full_table, lowest}
use Rattle.format.specs.Terms.{size, fields}
use Rattle.tables.specs.Lookup.{find_rule_in, find_rule, find_body_in, find_body, matches}
use Rattle.tables.specs.Places.{body_place_in, body_place}
use Rattle.tables.specs.ReadTables.{rule_of, definition_of, field_of, read_field, with_rule, with_definition, fields_of, read_fields, read_table}
use Rattle.tables.specs.Repeats.{rule_size, definition_size, rules_size, placed_rules, placed_tactics, placed_labels, labels_of, clashes_any, first_clash, repeats_rule, recounts_rule, repeats_tactic, repeats_label, refuse_at, whole_table}
use Rattle.tables.specs.Search.{searched_tag, step_at, besides, clash_at, places, clash_told}
use Rattle.files.specs.Counts.{job_term_place}
use Rattle.files.specs.Jobs.{last_term_of, read_last_term, job_of, read_job}
use Rattle.files.specs.Proofs.{proof_bytes}
use Rattle.evaluation.specs.Machine.{held, unwind, begin, step_from, step, run, start}
use Rattle.evaluation.specs.TacticArity.{arity_in, arity_after, tactic_arity}
use Rattle.entries.specs.Lines.{Holds, AllHold, no_more, ◌&◌}
use Rattle.entries.specs.Run.{run_end, run_result}
use Rattle.entries.specs.SavedState.{finished_fields, waiting_terms, saved_contents, saved_in, saved_state}
use Rattle.entries.specs.Halting.{ran_for, with_job, with_files, within_limit, halting_outcome, steps_of, same_bytes, is_saved, genuine, going_on, resume_outcome, save_in, halt_in, run_halting}
use Rattle.worked_runs.specs.Resumed.{full_size_lines}

pub resumed_at_full_size : AllHold full_size_lines
unfolding word term_bytes goal_bytes goals_at goals_of read_goals header_at leaf pair closed contents term_of read_term number and_then rows find_row row_of kind_of least_of most_of inner_of length_fits size fields find_rule_in find_rule find_body_in find_body matches body_place_in body_place full_table lowest rule_of definition_of field_of read_field with_rule with_definition fields_of read_fields read_table rule_size definition_size rules_size placed_rules placed_tactics placed_labels labels_of clashes_any first_clash repeats_rule recounts_rule repeats_tactic repeats_label refuse_at whole_table searched_tag step_at besides clash_at places clash_told job_term_place last_term_of read_last_term job_of read_job proof_bytes held unwind begin step_from step run start arity_in arity_after tactic_arity Holds run_end run_result finished_fields waiting_terms saved_contents saved_in saved_state ran_for with_job with_files within_limit halting_outcome steps_of same_bytes is_saved genuine going_on resume_outcome full_size_lines
resumed_at_full_size = refl & refl & refl & refl & no_more
