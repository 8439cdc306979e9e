-- `terms::read_term_file` meets its contract: each turn of the reading keeps what is known of the file, and the last state tells it.
-- Assumes nothing.
use mathlib.Core.Path.{refl, ◌∙◌}
use Rattle.std.specs.Prelude.{Ok, Err}
use Rattle.std.proofs.lemmas.Result.{err_from_is_err_and}
use Rattle.parts.specs.declared.state.Part.TheVariants.{JobTerm}
use Rattle.parts.proofs.ToldLaws.{told_is}
use Rattle.reading.proofs.ReachLaws.{reaches_kept}
use Rattle.files.proofs.ListSteps.{start_term}
use Rattle.files.proofs.TermFileSteps.{term_file_told}
use Rattle.files.proofs.terms.read_term_file.Goals as goal

pub read_whole-requires : goal.read_whole-requires
read_whole-requires c = start_term _ JobTerm _ _ c.requires refl (λ z. cc)

pub returns-in_err-read_whole : goal.returns-in_err-read_whole
returns-in_err-read_whole c =
    let p = err_from_is_err_and c.from_residual.result c.from_residual.ensures.1 in
    let t = c.in_err-read_whole.ensures in
    record { value = rw (p.1, p.2) (told_is (λ y. tt) t.0 (Err _) t.3 ∙ term_file_told _ _ _ (start_term _ JobTerm _ _ c.requires refl (λ z. cc)) _ t.0 t.1 t.2); kept = reaches_kept _ _ _ _ _ _ t.1 }

pub returns : goal.returns
returns c =
    let t = c.in_ok-read_whole.ensures in
    record { value = told_is (λ y. tt) t.0 (Ok tt) (t.3.0, refl) ∙ term_file_told _ _ _ (start_term _ JobTerm _ _ c.requires refl (λ z. cc)) _ t.0 t.1 t.2; kept = reaches_kept _ _ _ _ _ _ t.1 }
