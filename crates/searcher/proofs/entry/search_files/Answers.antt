-- `search_files` meets its contract: a file is refused, or both are read and the job is searched. Reading leaves the work space its length, and reading the job leaves the indexes.
-- Assumes nothing.
use mathlib.Core.Path.{◌≡◌, refl, sym, ◌∙◌}
use native.Mathlib.Omega.{arith}
use lib.ListN.{length}
use Rattle.whole_table.proofs.ReadLaws.{Told, told_indexed}
use Rattle.search_machine.specs.Layout.{rules_place}
use Rattle.search_machine.specs.Step.{TableIndexed}
use Rattle.tactics.proofs.EntryLaws.{table_place, job_place, BothRead, table_refused, job_refused, both_read, refused_end}
use Rattle.searcher.proofs.EntryLaws.{searches, indexed_read, read_end, job_given, job_end}
use Rattle.searcher.proofs.entry.search_files.Goals.{In-Ok-read_job}
use Rattle.searcher.proofs.entry.search_files.Goals as goal

pub refused-requires : goal.refused-requires
refused-requires c = (table_place _ c.in-Err.e (sym c.in-Err.ensures.answer), omega arith)

pub returns-in-Err : goal.returns-in-Err
returns-in-Err c = read_end _ _ _ _ c.requires.0 c.requires.1 _ _ (refused_end _ _ (searches c.args.below c.args.budget) _ _ (table_refused _ c.args.job.now c.in-Err.e _ (sym c.in-Err.ensures.answer) c.refused.ensures))

pub refused-requires-in-Err-read_job : goal.refused-requires-in-Err-read_job
refused-requires-in-Err-read_job c = (job_place _ c.in-Err-read_job.e (sym c.in-Err-read_job.ensures.value), omega arith)

pub returns-in-Err-read_job : goal.returns-in-Err-read_job
returns-in-Err-read_job c =
    read_end _ _ _ _ c.requires.0 c.requires.1 _ _
    (refused_end _ _ (searches c.args.below c.args.budget) _ _
    (job_refused _ _ _ (sym c.in-Ok.ensures.answer) c.in-Err-read_job.e _ (sym c.in-Err-read_job.ensures.value) c.refused-in-Err-read_job.ensures))

-- both files were read
both : (c : In-Ok-read_job) → BothRead c.args.table.now c.args.job.now c.in-Ok.fields.definitions c.in-Ok.fields.first c.in-Ok-read_job.parts
both c = both_read _ _ _ (sym c.in-Ok.ensures.answer) _ (sym c.in-Ok-read_job.ensures.value)

pub search_job-requires : goal.search_job-requires
search_job-requires c =
    let b = both (goal.at.search_job-requires c).In-Ok-read_job in
    let size : length c.read_job.new.work ≡ length c.args.work.now = c.read_job.auto.work ∙ c.read_table.auto.w in
    let told : Told c.args.table.now c.read_table.new.w 0 rules_place c.in-Ok.fields = told_indexed _ _ _ _ _ _ _ c.in-Ok.ensures refl in
    let indexed : TableIndexed c.args.table.now c.in-Ok.fields.first c.read_job.new.work = indexed_read _ _ _ _ c.read_job.auto.work c.read_job.ensures.kept told.rules told.definitions in
    job_given _ _ _ _ c.requires.0 c.requires.1 _ _ _ b _ (omega (arith, c.requires.2, size)) indexed

pub returns-in-Ok-read_job : goal.returns-in-Ok-read_job
returns-in-Ok-read_job c = let b = both (goal.at.returns-in-Ok-read_job c).In-Ok-read_job in job_end _ _ _ _ c.requires.0 c.requires.1 _ _ _ b _ _ _ c.search_job.ensures
