-- `check::read_files` meets its contract: what each of the two files reads as.
-- Assumes nothing.
use Rattle.std.proofs.Common.{rules, ◌≡◌, ◌∙◌, ◌≤◌, refl, sym, arith}
use Rattle.std.specs.Prelude.{Ok, Err}
use Rattle.std.proofs.lemmas.Grind.{common_steps}
use Rattle.format.specs.Refusals.{number}
use Rattle.tables.proofs.ToldTable.{told_refuses}
use Rattle.whole_table.proofs.ReadLaws.{told_indexed}
use Rattle.files.proofs.Answers as files
use Rattle.files.proofs.RefusedFiles.{Flat-refused}
use Rattle.answers.specs.Answers.{refusal}
use Rattle.derivation.specs.CheckedEntries.{table_refused, flat_refused}
use Rattle.derivation.proofs.CheckLaws.{either, read_at, still_indexed}
use Rattle.derivation.proofs.check.read_files.Goals as goal

pub map_err-requires : goal.map_err-requires
map_err-requires c = λ e is.
    let low : e.place ≤ 65535 = omega (arith, (told_refuses _ _ (sym c.read_table-read.ensures.answer ∙ is)).refusal.below) in
    search rules

pub map_err-requires-2 : goal.map_err-requires-2
map_err-requires-2 c = λ e is.
    let low : e.place ≤ 65535 = omega (arith, (Flat-refused _ _ _ (files.flat_refused _ _ (sym c.read_flat-read.ensures.value ∙ is))).below) in
    search rules

pub returns-in_err-fields : goal.returns-in_err-fields
returns-in_err-fields c =
    either c.read_table-read.result
    (λ p is. absurd (grind (arith, common_steps)))
    (λ e is.
    let made : c.from_residual.result ≡ Err (refusal (number e.cause) 1 e.place 0) = grind (arith, common_steps) in
    rw made (table_refused e (told_refuses _ _ (sym c.read_table-read.ensures.answer ∙ is)).refuses refl))

pub returns-in_err-parts : goal.returns-in_err-parts
returns-in_err-parts c =
    let was : c.read_table-read.result ≡ Ok c.in_ok-fields.fields = grind (arith, common_steps) in
    let t = (told_indexed _ _ _ _ _ _ _ c.read_table-read.ensures was).read in
    either c.read_flat-read.result
    (λ p is. absurd (grind (arith, common_steps)))
    (λ e is.
    let made : c.from_residual-in_err-parts.result ≡ Err (refusal (number e.cause) 2 e.place 0) = grind (arith, common_steps) in
    rw made (flat_refused t.table t.reads e (files.flat_refused _ _ (sym c.read_flat-read.ensures.value ∙ is)) refl))

pub returns : goal.returns
returns c =
    let was : c.read_table-read.result ≡ Ok c.in_ok-fields.fields = grind (arith, common_steps) in
    let is : c.read_flat-read.result ≡ Ok c.in_ok-parts.parts = grind (arith, common_steps) in
    let t = told_indexed _ _ _ _ _ _ _ c.read_table-read.ensures was in
    let f = files.flat_read _ _ (sym c.read_flat-read.ensures.value ∙ is) in
    record {
      the_table = t.read.table;
      reads = t.read.reads;
      stands = t.read.stands;
      short = t.read.facts.size;
      indexed = still_indexed _ _ _ _ c.read_flat-read.ensures.work_unchanged t.rules;
      derivation = f.0;
      flat_reads = f.1;
      at = read_at _ _ f.0 f.1 f.2;
    }
