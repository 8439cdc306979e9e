-- `last::run_files` meets its contract: a file is refused, or both are read and the job is run. Reading leaves the work space its length.
-- Assumes nothing.
use mathlib.Core.Path.{◌≡◌, refl, sym, ◌∙◌}
use Rattle.std.proofs.Common.{rules, arith, ◌≤◌, length}
use Rattle.std.specs.Prelude.{Ok, Err}
use Rattle.std.proofs.lemmas.Grind.{common_steps}
use Rattle.format.specs.Refusals.{number}
use Rattle.answers.specs.Answers.{refusal}
use Rattle.tactics.proofs.EntryLaws.{table_place, job_place, BothRead, table_refused, job_refused, both_read}
use Rattle.runner.proofs.LastLaws.{job_given, reached, by_result, refused_reaches, reached_reaches}
use Rattle.runner.proofs.last.run_files.Goals.{In_ok-parts}
use Rattle.runner.proofs.last.run_files.Goals as goal

pub map_err-requires : goal.map_err-requires
map_err-requires c = λ e is. let low : e.place ≤ 65535 = table_place _ e (sym c.read_table-read.ensures.answer ∙ is) in search rules

pub map_err-requires-2 : goal.map_err-requires-2
map_err-requires-2 c = λ e is. let low : e.place ≤ 65535 = job_place _ e (sym c.read_job-read.ensures.value ∙ is) in search rules

pub returns-in_err-fields : goal.returns-in_err-fields
returns-in_err-fields c =
    by_result c.read_table-read.result _
    (λ p is. absurd (grind (arith, common_steps)))
    (λ e is.
    let made : c.from_residual.result ≡ Err (refusal (number e.cause) 1 e.place 0) = grind (arith, common_steps) in
    refused_reaches _ _ _ _ _ _ made (table_refused _ _ e _ (sym c.read_table-read.ensures.answer ∙ is) refl))

pub returns-in_err-parts : goal.returns-in_err-parts
returns-in_err-parts c =
    let was : c.read_table-read.result ≡ Ok c.in_ok-fields.fields = grind (arith, common_steps) in
    by_result c.read_job-read.result _
    (λ p is. absurd (grind (arith, common_steps)))
    (λ e is.
    let made : c.from_residual-in_err-parts.result ≡ Err (refusal (number e.cause) 2 e.place 0) = grind (arith, common_steps) in
    refused_reaches _ _ _ _ _ _ made (job_refused _ _ _ (sym c.read_table-read.ensures.answer ∙ was) e _ (sym c.read_job-read.ensures.value ∙ is) refl))

-- both files were read
both : (c : In_ok-parts) → BothRead c.args.table.now c.args.job.now c.in_ok-fields.fields.definitions c.in_ok-fields.fields.first c.in_ok-parts.parts
both c =
    let was : c.read_table-read.result ≡ Ok c.in_ok-fields.fields = grind (arith, common_steps) in
    let is : c.read_job-read.result ≡ Ok c.in_ok-parts.parts = grind (arith, common_steps) in
    both_read _ _ _ (sym c.read_table-read.ensures.answer ∙ was) _ (sym c.read_job-read.ensures.value ∙ is)

pub run_job-state-requires : goal.run_job-state-requires
run_job-state-requires c =
    let b = both (goal.at.run_job-state-requires c).In_ok-parts in
    let size : length c.read_job-read.new.work ≡ length c.args.work.now = c.read_job-read.auto.work ∙ c.read_table-read.auto.w in
    job_given _ _ _ c.requires.0 _ _ _ b _ (omega (arith, c.requires.1, size))

pub returns : goal.returns
returns c =
    let b = both (goal.at.returns c).In_ok-parts in
    reached_reaches _ _ _ _ _ (reached _ _ _ c.requires.0 _ _ _ b _ _ c.run_job-state.ensures)
