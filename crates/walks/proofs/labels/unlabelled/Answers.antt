-- `labels::unlabelled` meets its contract. The invariant: the term inside the labels of the whole is that inside the labels from here on.
-- Assumes nothing.
use mathlib.Core.Path.{refl, sym, ◌∙◌}
use native.Mathlib.Omega.{arith}
use Rattle.format.proofs.StandsLaws.{known}
use Rattle.walks.proofs.LabelLaws.{past_label, no_label}
use Rattle.walks.proofs.labels.unlabelled.Goals as goal

pub loop-place-init : goal.loop-place-init
loop-place-init c = (c.requires, λ t st. (t, st, refl))

pub bounds-s-place : goal.bounds-s-place
bounds-s-place c = omega (arith, known _ _ _ c.loop-place.invariant.0.1)

pub overflow_add-place : goal.overflow_add-place
overflow_add-place c = omega (arith, (past_label _ _ c.loop-place-test.true _ c.loop-place.invariant.0.1).3)

pub loop-place-smaller : goal.loop-place-smaller
loop-place-smaller c = omega (arith, (past_label _ _ c.loop-place-test.true _ c.loop-place.invariant.0.1).3)

pub loop-place-preserved : goal.loop-place-preserved
loop-place-preserved c =
    let here = past_label _ _ c.loop-place-test.true _ c.loop-place.invariant.0.1 in (
      (here.0, here.1),
      λ t st.
          let u = c.loop-place.invariant.1 t st in
          let v = past_label _ _ c.loop-place-test.true _ u.1 in
          (v.0, v.1, u.2 ∙ v.2),
    )

pub returns : goal.returns
returns c = λ t st.
    let u = c.loop-place.invariant.1 t st in
    no_label _ _ c.loop-place-test.false _ u.1 ∙ sym u.2
