-- `flats::read_flat` meets its contract: what the last state tells is what the file reads as, and no state of a flat file is within a term.
-- Assumes nothing.
use mathlib.Core.Path.{refl, ◌∙◌}
use Rattle.parts.specs.declared.state.Part.TheVariants.{Roots}
use Rattle.parts.proofs.ToldLaws.{told_is}
use Rattle.files.specs.Shapes.{flat_kept}
use Rattle.files.proofs.ListSteps.{start_reading}
use Rattle.files.proofs.FlatReading.{flat_told}
use Rattle.files.proofs.flats.read_flat.Goals as goal

pub read_whole-requires : goal.read_whole-requires
read_whole-requires c = start_reading _ Roots _ _ c.requires refl

pub returns : goal.returns
returns c =
    let t = c.read_whole.ensures in
    let l = flat_told _ _ _ (start_reading _ Roots _ _ c.requires refl) _ t.0 t.1 t.2 in
    record { value = told_is flat_kept t.0 _ t.3 ∙ l.0; work_unchanged = l.1 }
