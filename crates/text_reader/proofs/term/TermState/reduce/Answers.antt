-- `TermState::reduce` meets its contract. The invariant: for every term and frames that were held at first, those that are held now come to the same.
-- Assumes nothing.
use mathlib.Core.Path.{refl, ◌∙◌}
use native.Mathlib.Omega.{arith}
use Rattle.text_reader.proofs.StoreLaws.{stacked_end, taken_start, taken_first, taken_shown, taken_ahead, taken_next, taken_all}
use Rattle.text_reader.proofs.term.TermState.reduce.Goals as goal

pub loop-out-init : goal.loop-out-init
loop-out-init c =
    let p = c.requires.2 in
    (refl, omega arith, omega (arith, stacked_end _ _ _ _ p.2.stacked), λ t fs x h. taken_start _ t fs _ _ _ _ _ x h)

pub reduce_one-here-requires : goal.reduce_one-here-requires
reduce_one-here-requires c =
    let q = c.requires in
    let p = q.2 in
    let k = c.loop-out.invariant.3 p.0 p.1 p.2 p.3 in
    let e = c.loop-out-test.ensures _ k.frames k.shown.stacked in
    let f = taken_first _ _ _ _ _ _ _ _ k e in
    (taken_ahead _ _ _ _ _ _ _ _ k e, q.0, omega (arith, q.1), (k.term, f.sign, f.term, f.rest, taken_shown _ _ _ _ _ _ _ _ k e))

pub loop-out-smaller : goal.loop-out-smaller
loop-out-smaller c = let r = c.reduce_one-here.ensures.front_value in omega (arith, r.1, r.2)

pub loop-out-preserved : goal.loop-out-preserved
loop-out-preserved c =
    let r = c.reduce_one-here.ensures.front_value in (
      c.reduce_one-here.auto.out ∙ c.loop-out.invariant.0,
      omega (arith, r.1, c.loop-out.invariant.1),
      r.2,
      λ t fs x h.
          let k = c.loop-out.invariant.3 t fs x h in
          let e = c.loop-out-test.ensures _ k.frames k.shown.stacked in
          let f = taken_first _ _ _ _ _ _ _ _ k e in
          let y = c.reduce_one-here.ensures.shown_had k.term f.sign f.term f.rest (taken_shown _ _ _ _ _ _ _ _ k e) in
          taken_next _ _ _ _ _ _ _ _ k e _ _ _ _ y r.0,
    )

pub returns : goal.returns
returns c =
    record { shown_had = (λ t fs x h. let k = c.loop-out.invariant.3 t fs x h in taken_all _ _ _ _ _ _ _ _ k (c.loop-out-test.ensures _ k.frames k.shown.stacked)); low_le_low = (c.loop-out.invariant.1, c.loop-out.invariant.2) }
