-- `labels::label_count_wrong` meets its contract: the tag says which case of `label_count_wrong` holds.
-- Assumes nothing.
use mathlib.Core.Path.{◌∙◌}
use native.Mathlib.Omega.{arith}
use borrow.Author.Tests.{ne_eqb}
use Rattle.format.proofs.StandsLaws.{known}
use Rattle.walks.proofs.LabelLaws.{count_of_label, count_of_other}
use Rattle.walks.proofs.labels.label_count_wrong.Goals as goal

pub bounds-s-at : goal.bounds-s-at
bounds-s-at c = omega (arith, known _ _ _ c.requires.1)

pub returns-then-s-at-eq-LABEL : goal.returns-then-s-at-eq-LABEL
returns-then-s-at-eq-LABEL c = count_of_label _ _ c.if-s-at-eq-LABEL.true _

pub returns-else-s-at-eq-LABEL : goal.returns-else-s-at-eq-LABEL
returns-else-s-at-eq-LABEL c = λ t st. ne_eqb _ _ c.if-s-at-eq-LABEL.false ∙ count_of_other _ _ c.if-s-at-eq-LABEL.false _ t st
