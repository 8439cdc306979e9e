-- `check::check_files` meets its contract: how the files read says which case of the entry's definition holds.
-- Assumes nothing.
use mathlib.Core.Path.{sym, ◌∙◌}
use native.Mathlib.Omega.{arith}
use Rattle.tables.proofs.ToldTable.{told_refuses}
use Rattle.whole_table.proofs.ReadLaws.{told_indexed}
use Rattle.files.proofs.Answers as files
use Rattle.files.proofs.EmptyProof.{read_itself}
use Rattle.files.proofs.RefusedFiles.{Fields-refused}
use Rattle.checker.proofs.StepLaws.{behind-kept}
use Rattle.checker.proofs.CheckLaws.{table_refused, proof_refused, both_read}
use Rattle.checker.proofs.check.check_files.Goals as goal

pub refused-requires : goal.refused-requires
refused-requires c = ((told_refuses _ c.in-Err.refused (sym c.read_table.ensures.answer ∙ c.in-Err.is)).refusal.below, omega arith)

pub returns-in-Err : goal.returns-in-Err
returns-in-Err c = c.refused.ensures ∙ sym (table_refused _ _ _ _ (told_refuses _ c.in-Err.refused (sym c.read_table.ensures.answer ∙ c.in-Err.is)).refuses)

pub refused-requires-in-Err-read_proof_fields : goal.refused-requires-in-Err-read_proof_fields
refused-requires-in-Err-read_proof_fields c = ((Fields-refused _ _ _ (files.proof_refused _ _ (sym c.read_proof_fields.ensures.value ∙ c.in-Err-read_proof_fields.is))).below, omega arith)

pub decide-requires : goal.decide-requires
decide-requires c =
    let told = told_indexed _ _ _ _ _ _ _ c.read_table.ensures c.in-Ok.is in
    let x = files.proof_read _ _ (sym c.read_proof_fields.ensures.value ∙ c.in-Ok-read_proof_fields.is) in (
      (told.read.table, told.read.stands),
      (x.0, x.1, x.2),
      omega (arith, c.requires.1, c.read_table.auto.w, c.read_proof_fields.auto.work),
      behind-kept _ _ _ _ _ _ c.read_proof_fields.auto.work c.read_proof_fields.ensures.kept (omega arith) (record { index = told.rules }),
    )

pub returns-in-Err-read_proof_fields : goal.returns-in-Err-read_proof_fields
returns-in-Err-read_proof_fields c =
    let told = told_indexed _ _ _ _ _ _ _ c.read_table.ensures c.in-Ok.is in
    c.refused-in-Err-read_proof_fields.ensures
    ∙ sym (proof_refused _ _ told.read.table _ _ told.read.reads (read_itself _ c.requires.0 ∙ files.proof_refused _ _ (sym c.read_proof_fields.ensures.value ∙ c.in-Err-read_proof_fields.is)))

pub returns-in-Ok-read_proof_fields : goal.returns-in-Ok-read_proof_fields
returns-in-Ok-read_proof_fields c =
    let told = told_indexed _ _ _ _ _ _ _ c.read_table.ensures c.in-Ok.is in
    let x = files.proof_read _ _ (sym c.read_proof_fields.ensures.value ∙ c.in-Ok-read_proof_fields.is) in
    c.decide.ensures told.read.table x.0 told.read.stands x.1 ∙ sym (both_read _ _ told.read.table x.0 told.read.reads (read_itself _ c.requires.0 ∙ x.1))
