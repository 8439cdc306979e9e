-- `proofs::read_proof_fields` meets its contract: each turn of the reading keeps what is known of the file, and the last state tells it.
-- Assumes nothing.
use mathlib.Core.Path.{refl, ◌∙◌}
use Rattle.parts.specs.declared.state.Part.TheVariants.{ProofGoals}
use Rattle.parts.proofs.ToldLaws.{told_is}
use Rattle.reading.proofs.ReachLaws.{reaches_kept}
use Rattle.files.specs.Shapes.{proof_kept}
use Rattle.files.proofs.ListSteps.{start_reading}
use Rattle.files.proofs.ProofSteps.{proof_told}
use Rattle.files.proofs.proofs.read_proof_fields.Goals as goal

pub read_whole-requires : goal.read_whole-requires
read_whole-requires c = start_reading _ ProofGoals _ _ c.requires refl

pub returns : goal.returns
returns c =
    let t = c.read_whole.ensures in
    record { value = told_is proof_kept t.0 _ t.3 ∙ proof_told _ _ _ (start_reading _ ProofGoals _ _ c.requires refl) _ t.0 t.1 t.2; kept = reaches_kept _ _ _ _ _ _ t.1 }
